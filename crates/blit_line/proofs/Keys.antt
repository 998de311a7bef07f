-- A line with a key colour of one byte, byte by byte.
use mathlib.Core.Path.{◌≡◌, refl, sym, ap, subst, ◌∙◌}
use mathlib.Core.Bool.{Bool, true, false, cond}
use mathlib.Core.List.{List}
use Prim.Native.Nat.{ℕ, suc, ◌*◌, ◌<◌}
use native.Mathlib.Nat.{mod-eq_of_lt, mul-one}
use lib.Dec.{eqb}
use lib.ListN.{get_or, set}
use Rattle.pixel.specs.Pixel.{get_pixel, put_pixel}
use Rattle.pixel.proofs.Pixels.{get_one, put_one}
use Rattle.blit.specs.Job.{mix_of}
use Rattle.blit.specs.Line.{straight_line}
use Rattle.blit.specs.declared.Mix.TheVariants.{Key}
use Rattle.blit.proofs.Worker.{straight_more}

-- the next byte, stored
pub keyed_more : (key i : ℕ) (source line m : List ℕ) (s d r : ℕ) → s ≡ get_or source i 0 → d ≡ get_or m i 0 → r ≡ cond (eqb s key) d s → s < 256 → d < 256
    → m ≡ straight_line 1 (mix_of (Key key) 1) (λ k. get_pixel 1 source (k * 1)) i line
    → set m i r ≡ straight_line 1 (mix_of (Key key) 1) (λ k. get_pixel 1 source (k * 1)) (suc i) line
keyed_more key i source line m s d r es ed er hs hd e =
    let keyed : ℕ → ℕ → ℕ = mix_of (Key key) 1 in
    let from : s ≡ get_pixel 1 source i = es ∙ sym (get_one source i) in
    let own : d ≡ get_pixel 1 m i = ed ∙ sym (get_one m i) in
    ap (set m i) (sym (mod-eq_of_lt (subst (λ (x : ℕ). x < 256) (sym er) (either (eqb s key)))))
    ∙ sym (put_one m i r)
    ∙ ap (put_pixel 1 m i) (er ∙ (λ t. keyed (from t) (own t)))
    ∙ ap (λ (a : ℕ). put_pixel 1 m a (keyed (get_pixel 1 source a) (get_pixel 1 m a))) (sym (mul-one i))
    ∙ straight_more 1 keyed (λ k. get_pixel 1 source (k * 1)) i line m (get_pixel 1 source (i * 1)) e refl
  where
    either : (t : Bool) → cond t d s < 256
    either true = hd
    either false = hs
