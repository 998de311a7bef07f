-- A blit on its way: the bytes between two addresses are painted, all others are as they were.
use mathlib.Core.Path.{◌≡◌, refl, sym, ◌∙◌, subst}
use mathlib.Core.Bool.{false}
use mathlib.Core.Logic.{⊎_elim}
use mathlib.Core.List.{List}
use Prim.Native.Nat.{ℕ, ◌+◌, ◌-◌, ◌≤◌, ◌<◌}
use native.Mathlib.Omega.{arith}
use lib.ListN.{length, get_or}
use lib.Seq.{ext_get_or}
use Rattle.pixel.specs.Pixel.{put_pixel, byte_of}
use Rattle.pixel.proofs.Pixels.{length_put, put_above, put_below, put_hit}
use Rattle.blit.specs.Blit.{Blit}
use Rattle.blit.specs.Rectangle.{inside, painted_byte, painted}
use Rattle.blit.proofs.Runs.{below_or_not}
use Rattle.blit.proofs.Painted.{length_painted, painted_at, painted_out}

pub record Between (b : Blit) (old : List ℕ) (lo hi : ℕ) (m : List ℕ) : Type 0 where
  pub len : length m ≡ length old
  pub new : (a : ℕ) → lo ≤ a → a < hi → get_or m a 0 ≡ painted_byte b old a
  pub low : (a : ℕ) → a < lo → get_or m a 0 ≡ get_or old a 0
  pub high : (a : ℕ) → hi ≤ a → get_or m a 0 ≡ get_or old a 0

module _ (b : Blit) (old : List ℕ) where
  -- nothing done yet
  pub at_first : (lo hi : ℕ) → hi ≤ lo → Between b old lo hi old
  at_first lo hi h = record { len = refl; new = λ a p q. absurd (omega arith); low = λ a p. refl; high = λ a p. refl }

  -- all done
  pub at_last : (lo hi : ℕ) (m : List ℕ) → Between b old lo hi m
      → ((a : ℕ) → a < lo → painted_byte b old a ≡ get_or old a 0) → ((a : ℕ) → hi ≤ a → painted_byte b old a ≡ get_or old a 0)
      → m ≡ painted b old
  at_last lo hi m w below above =
      ext_get_or 0 m (painted b old) (w.len ∙ sym (length_painted b old))
      (λ a h.
      let h' : a < length old = omega (arith, w.len) in
      ⊎_elim
      (λ p. w.low a p ∙ sym (below a p))
      (λ p. ⊎_elim (λ q. w.new a p q) (λ q. w.high a q ∙ sym (above a q)) (below_or_not a hi))
      (below_or_not a lo)
      ∙ sym (painted_at b old a h'))

  -- bytes that are painted as they were count as done
  pub wider : (lo lo' hi hi' : ℕ) (m : List ℕ) → lo' ≤ lo → hi ≤ hi'
      → ((a : ℕ) → lo' ≤ a → a < lo → painted_byte b old a ≡ get_or old a 0)
      → ((a : ℕ) → hi ≤ a → a < hi' → painted_byte b old a ≡ get_or old a 0)
      → Between b old lo hi m → Between b old lo' hi' m
  wider lo lo' hi hi' m p q below above w =
      record {
        len = w.len;
        new = λ a x y.
            ⊎_elim
            (λ s. w.low a s ∙ sym (below a x s))
            (λ s. ⊎_elim (λ t. w.new a s t) (λ t. w.high a t ∙ sym (above a t y)) (below_or_not a hi))
            (below_or_not a lo);
        low = λ a x. w.low a (omega arith);
        high = λ a x. w.high a (omega arith);
      }

  -- every byte outside the rectangle is as it was
  pub between_out : (lo hi : ℕ) (m : List ℕ) → Between b old lo hi m → (a : ℕ) → inside b a ≡ false → get_or m a 0 ≡ get_or old a 0
  between_out lo hi m w a e =
      ⊎_elim (λ p. w.low a p) (λ p. ⊎_elim (λ q. w.new a p q ∙ painted_out b old a e) (λ q. w.high a q) (below_or_not a hi)) (below_or_not a lo)

  -- one more pixel on top, and one more below
  module _ (p v : ℕ) (m : List ℕ) (room : p + b.bytes ≤ length old) (hit : (k : ℕ) → k < b.bytes → painted_byte b old (p + k) ≡ byte_of k v) where
    stored : length m ≡ length old → (a : ℕ) → p ≤ a → a < p + b.bytes → get_or (put_pixel b.bytes m p v) a 0 ≡ painted_byte b old a
    stored len a x y =
        let k : ℕ = a - p in
        let e : p + k ≡ a = omega arith in
        subst (λ (z : ℕ). get_or (put_pixel b.bytes m p v) z 0 ≡ painted_byte b old z) e
        (put_hit b.bytes m p v k (omega arith) (omega arith) ∙ sym (hit k (omega arith)))

    pub upward : (lo : ℕ) → lo ≤ p → Between b old lo p m → Between b old lo (p + b.bytes) (put_pixel b.bytes m p v)
    upward lo h w =
        record {
          len = length_put b.bytes m p v ∙ w.len;
          new = λ a x y.
              ⊎_elim (λ s. put_below b.bytes m p v a s ∙ w.new a x s) (λ s. stored w.len a s y) (below_or_not a p);
          low = λ a x. put_below b.bytes m p v a (omega arith) ∙ w.low a x;
          high = λ a x. put_above b.bytes m p v a x ∙ w.high a (omega arith);
        }

    pub downward : (hi : ℕ) → p + b.bytes ≤ hi → Between b old (p + b.bytes) hi m → Between b old p hi (put_pixel b.bytes m p v)
    downward hi h w =
        record {
          len = length_put b.bytes m p v ∙ w.len;
          new = λ a x y.
              ⊎_elim (λ s. stored w.len a x s) (λ s. put_above b.bytes m p v a s ∙ w.new a s y) (below_or_not a (p + b.bytes));
          low = λ a x. put_below b.bytes m p v a x ∙ w.low a (omega arith);
          high = λ a x. put_above b.bytes m p v a (omega arith) ∙ w.high a x;
        }
