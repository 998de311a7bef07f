-- The structs of the ring and of the strip, one law for each way out.
use Prim.Native.Nat.{ℕ}
use mathlib.Core.Path.{◌≡◌, sym, ap}
use Rattle.std.specs.Prelude.{Option, None, Some, Result, Ok, Err}
use Rattle.refusal.specs.Number as refusals
use Rattle.refusal.specs.declared.Refusal.{Refusal}
use Rattle.ring.specs.Kept.{telling_of, telling_by}
use Rattle.wear.specs.Font.{finding_of, finding_by}
use Rattle.wear.specs.Strip.{stripping_of, stripping_by}
use Rattle.wear.specs.declared.Glyph.{Glyph}
use Rattle.wear.specs.declared.Glyph.TheVariants.{Site, Factory}
use Rattle.wear.specs.declared.Made.{Made}
use Rattle.answers.specs.Answers.{hour_given, strip_given, glyph_given}

module _ (a : Result (Option ℕ) Refusal) where
  pub hour_sample : (h : ℕ) → a ≡ Ok (Some h) → record { number = 0; sampled = 1; height = h } ≡ hour_given (telling_of a)
  unfolding hour_given telling_by
  hour_sample h e = ap (λ (x : Result (Option ℕ) Refusal). hour_given (telling_of x)) (sym e)

  pub hour_blank : a ≡ Ok None → record { number = 0; sampled = 0; height = 0 } ≡ hour_given (telling_of a)
  unfolding hour_given telling_by
  hour_blank e = ap (λ (x : Result (Option ℕ) Refusal). hour_given (telling_of x)) (sym e)

  pub hour_refused : (r : Refusal) → a ≡ Err r → record { number = refusals.number r; sampled = 0; height = 0 } ≡ hour_given (telling_of a)
  unfolding hour_given telling_by
  hour_refused r e = ap (λ (x : Result (Option ℕ) Refusal). hour_given (telling_of x)) (sym e)

module _ (a : Result Made Refusal) where
  pub strip_made_lem : (m : Made) → a ≡ Ok m → record { number = 0; list_length = m.bytes; words_length = m.words } ≡ strip_given (stripping_of a)
  unfolding strip_given stripping_by
  strip_made_lem m e = ap (λ (x : Result Made Refusal). strip_given (stripping_of x)) (sym e)

  pub strip_refused : (r : Refusal) → a ≡ Err r → record { number = refusals.number r; list_length = 0; words_length = 0 } ≡ strip_given (stripping_of a)
  unfolding strip_given stripping_by
  strip_refused r e = ap (λ (x : Result Made Refusal). strip_given (stripping_of x)) (sym e)

module _ (a : Result Glyph Refusal) where
  pub glyph_site : (at : ℕ) → a ≡ Ok (Site at) → record { number = 0; site = 1; at = at; length = 8 } ≡ glyph_given (finding_of a)
  unfolding glyph_given finding_by
  glyph_site at e = ap (λ (x : Result Glyph Refusal). glyph_given (finding_of x)) (sym e)

  pub glyph_factory : (at : ℕ) → a ≡ Ok (Factory at) → record { number = 0; site = 0; at = at; length = 8 } ≡ glyph_given (finding_of a)
  unfolding glyph_given finding_by
  glyph_factory at e = ap (λ (x : Result Glyph Refusal). glyph_given (finding_of x)) (sym e)

  pub glyph_refused : (r : Refusal) → a ≡ Err r → record { number = refusals.number r; site = 0; at = 0; length = 0 } ≡ glyph_given (finding_of a)
  unfolding glyph_given finding_by
  glyph_refused r e = ap (λ (x : Result Glyph Refusal). glyph_given (finding_of x)) (sym e)
