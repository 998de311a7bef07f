-- A strip that is made stands at the front of its buffers; and what is drawn of it.
use Prim.Native.Nat.{ℕ, ◌<◌, ◌≤◌}
use mathlib.Core.Path.{◌≡◌, refl, sym, ap, subst, ◌∙◌}
use mathlib.Core.Bool.{Bool, true, false}
use mathlib.Core.List.{List}
use native.Mathlib.Omega.{arith}
use lib.ListN.{length, take, drop, length-append}
use lib.Seq.{take-append_seam}
use lib.Dec.{eqb}
use borrow.Author.Tests.{eqb-false, ne_eqb}
use Rattle.record.specs.Bytes.{over}
use Rattle.record.specs.Checks.{first_of}
use Rattle.screen.specs.Screen.{memory_size, screen_rows, screen_of}
use Rattle.command.specs.Task.{short_form, task}
use Rattle.unit.specs.Draw.{memory_drawn}
use Rattle.screen.specs.declared.Screen.{Screen}
use Rattle.std.specs.Prelude.{Result, Ok, Err}
use Rattle.refusal.specs.declared.Refusal.{Refusal}
use Rattle.refusal.proofs.Numbers.{refused_by}
use Rattle.screen.proofs.Read.{read_accepted}
use Rattle.compiler.proofs.Outcome.{refused_screen}
use Rattle.ring.specs.declared.Ring.{Ring}
use Rattle.font.specs.Factory.{factory_font}
use Rattle.wear.specs.declared.Ask.{Ask}
use Rattle.wear.specs.Strip.{Strip, strip_for, strip_list, strip_words, strip_rows, Stripping, stripping, list_after, words_after, stripping_of, stripping_by, answer_of}
use Rattle.wear.specs.declared.Made.{Made}
use Rattle.strip_show.specs.Drawn.{ask_for, strip_made, strip_drawn}

-- what is at the front of a buffer
pub record Front (n : ℕ) (new buffer : List ℕ) : Type 0 where
  pub within : n ≤ length buffer
  pub is : take n buffer ≡ new

front : (new old : List ℕ) → Front (length new) new (over new old)
front new old = record { within = omega (arith, length-append new (drop (length new) old)); is = take-append_seam new (drop (length new) old) }

module _ (t : Strip) (room wordRoom : ℕ) where
  -- the answer's test and lengths
  accepted_by : (b : Bool) → eqb (first_of (strip_rows t room wordRoom)) 0 ≡ b → (stripping t room wordRoom).number ≡ 0
      → ((stripping t room wordRoom).bytes ≡ length (strip_list t)) × ((stripping t room wordRoom).words ≡ length (strip_words t))
  unfolding stripping
  accepted_by true e h = (rw e, rw e)
  accepted_by false e h =
      let k : (stripping t room wordRoom).number ≡ first_of (strip_rows t room wordRoom) = rw e in
      absurd (eqb-false _ 0 e (sym k ∙ h))

  lengths : (stripping t room wordRoom).number ≡ 0 → ((stripping t room wordRoom).bytes ≡ length (strip_list t)) × ((stripping t room wordRoom).words ≡ length (strip_words t))
  lengths h = accepted_by (eqb (first_of (strip_rows t room wordRoom)) 0) refl h

module _ (t : Strip) (list words : List ℕ) (r : Result Made Refusal) (answers : stripping_of r ≡ stripping t (length list) (length words)) where
  abbrev s : Stripping
  s = stripping t (length list) (length words)

  module _ (m : Made) (made : r ≡ Ok m) where
    numbers : (s.number ≡ 0) × ((s.bytes ≡ m.bytes) × (s.words ≡ m.words))
    unfolding stripping_by
    numbers =
        let e = sym answers ∙ ap stripping_of made in
        (ap (λ (x : Stripping). x.number) e, (ap (λ (x : Stripping). x.bytes) e, ap (λ (x : Stripping). x.words) e))

    pub list_front : (l : List ℕ) → l ≡ list_after t list words → Front m.bytes (strip_list t) l
    unfolding list_after
    list_front l e =
        let d = numbers in
        subst (λ (x : List ℕ). Front m.bytes (strip_list t) x) (sym (e ∙ rw d.0))
        (subst (λ (x : ℕ). Front x (strip_list t) (over (strip_list t) list)) (sym (lengths t (length list) (length words) d.0).0 ∙ d.1.0) (front (strip_list t) list))

    pub words_front : (w : List ℕ) → w ≡ words_after t list words → Front m.words (strip_words t) w
    unfolding words_after
    words_front w e =
        let d = numbers in
        subst (λ (x : List ℕ). Front m.words (strip_words t) x) (sym (e ∙ rw d.0))
        (subst (λ (x : ℕ). Front x (strip_words t) (over (strip_words t) words)) (sym (lengths t (length list) (length words) d.0).1 ∙ d.1.1) (front (strip_words t) words))

    -- the memory that drawing it leaves
    pub drawn : length list ≡ 2048 → length words ≡ 320 → (l w screen memory new : List ℕ) → l ≡ list_after t list words → w ≡ words_after t list words
        → new ≡ memory_drawn memory_size (task short_form screen (take m.bytes l) (take m.words w)) 2097152 memory → new ≡ strip_made t screen memory
    unfolding strip_made
    drawn a b l w screen memory new e f h =
        h
        ∙ ap (λ (x : List ℕ). memory_drawn memory_size (task short_form screen x (take m.words w)) 2097152 memory) (list_front l e).is
        ∙ ap (λ (x : List ℕ). memory_drawn memory_size (task short_form screen (strip_list t) x) 2097152 memory) (words_front w f).is
        ∙ rw (subst (λ (x : ℕ). (stripping t x 320).number ≡ 0) a (subst (λ (x : ℕ). (stripping t (length list) x).number ≡ 0) b numbers.0))

  -- a refused strip is not drawn
  not_made : (x : Refusal) → r ≡ answer_of s → r ≡ Err x → eqb s.number 0 ≡ false
  unfolding answer_of
  not_made x h f = let k = refused_by _ _ _ (sym h ∙ f) in ne_eqb s.number 0 (λ e. omega (arith, e, k.0))

  pub not_drawn : length list ≡ 2048 → length words ≡ 320 → (x : Refusal) → r ≡ answer_of s → r ≡ Err x → (screen memory : List ℕ) → memory ≡ strip_made t screen memory
  unfolding strip_made
  not_drawn a b x f h screen memory =
      rw (subst (λ (k : ℕ). eqb (stripping t k 320).number 0 ≡ false) a (subst (λ (k : ℕ). eqb (stripping t (length list) k).number 0 ≡ false) b (not_made x f h)))

-- ---- the screen
is_not_zero : (n : ℕ) → 0 < n → eqb n 0 ≡ false
is_not_zero n h = ne_eqb n 0 (λ e. omega (arith, e))

module _ (r : Ring) (a : Ask) (site screen memory : List ℕ) where
  pub screen_refused : (x : Refusal) → screen_of memory_size screen ≡ Err x → memory ≡ strip_drawn r a site screen memory
  unfolding strip_drawn
  screen_refused x e = let h = refused_screen memory_size screen x e in rw (is_not_zero (first_of (screen_rows memory_size screen)) (omega (arith, h.0, h.1)))

  pub screen_accepted : (s : Screen) → screen_of memory_size screen ≡ Ok s → (ask : Ask) → ask ≡ ask_for s.depth a
      → (new : List ℕ) → new ≡ strip_made (strip_for r ask site factory_font) screen memory → new ≡ strip_drawn r a site screen memory
  unfolding strip_drawn
  screen_accepted s e ask f new h =
      let k = read_accepted memory_size screen s e in
      h
      ∙ ap (λ (x : Ask). strip_made (strip_for r x site factory_font) screen memory) (f ∙ ap (λ (x : Screen). ask_for x.depth a) k.0)
      ∙ rw k.1
