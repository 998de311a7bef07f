-- An accepted screen's values are never refused at a panel point, and the reader gives the bits shown there, and where they stand.
use Prim.Native.Nat.{ℕ, ◌-◌, ◌/◌, ◌%◌, ◌<◌, ◌≤◌}
use mathlib.Core.Path.{◌≡◌, ap, ◌∙◌}
use mathlib.Core.List.{List}
use mathlib.Core.Bool.{true, not, ◌&&◌}
use native.Mathlib.Omega.{arith}
use lib.ListN.{length}
use lib.Dec.{ltb}
use borrow.Author.Tests.{eq-eqb, le-leb, le-ltb, lt-ltb}
use Rattle.record.specs.Checks.{first_of, AllPass}
use Rattle.record.proofs.Checks.{none, none_back}
use Rattle.pixel.specs.Pixel.{pixel_byte, pixel_bit, stored_pixel}
use Rattle.pixel.proofs.Stands.{stored_pixel_lem, bit_is}
use Rattle.screen.specs.Screen.{main_image, field_rows}
use Rattle.screen.specs.Values.{values_of}
use Rattle.screen.specs.declared.Screen.{Screen}
use Rattle.screen.proofs.Accepted.{accepted}
use Rattle.screen.proofs.Read.{field_numbered}
use Rattle.screen.proofs.Fits.{values_pass}
use Rattle.view.specs.Walk.{place_of}
use Rattle.view.specs.Shows.{Shows, shown_bit}
use Rattle.view.specs.declared.Place.{Place}
use Rattle.view.proofs.Demand.{demand_2}
use Rattle.reader.specs.Read.{display_of, dword_inside, read_rows, read_at, reading}
use Rattle.reader.proofs.Answer.{reading_is}

-- the dword of a place that shows something is one of the memory's
inside_passes : (m d : ℕ) (w : Place) (bit : ℕ) → Shows m d w bit → dword_inside m w ≡ true
inside_passes m d w bit s = rw (le-leb w.down w.up s.above) (lt-ltb (w.up - w.down) (m / 4) (omega (arith, s.inside)))

-- a point of the panel
point_passes : (w h p q : ℕ) → p < w → q < h → (ltb p w && ltb q h) ≡ true
point_passes w h p q a b = rw (lt-ltb p w a) (lt-ltb q h b)

module _ (m : ℕ) (s : Screen) (f : first_of (field_rows m s) ≡ 0) (on : s.flag ≤ 1) (h : m ≤ 262144) (memory : List ℕ) (len : length memory ≡ m) (p q : ℕ) (pw : p < s.width) (qh : q < s.height) where
  pub not_refused : first_of (read_rows m (display_of s) (values_of s) p q (length memory)) ≡ 0
  unfolding read_rows display_of field_rows main_image AllPass
  not_refused =
      let t = none (field_rows m s) (field_numbered m s) f in
      let length-is = ap not (eq-eqb (length memory) m len) in
      let flag_is = le-ltb 1 s.flag on in
      let fit = ap not (values_pass m s h f on) in
      let point = ap not (point_passes s.width s.height p q pw qh) in
      let dword = ap not (inside_passes m s.depth _ _ (demand_2 m s f p q pw qh)) in
      none_back (read_rows m (display_of s) (values_of s) p q (length memory))
      (length-is, (flag_is, (t.0, (t.1.0, (t.1.1.0, (t.1.1.1.0, (fit, (point, (dword, tt)))))))))

  -- the reader gives address, bit and colour of the bits shown there
  pub reads : let n = shown_bit s p q in
      reading m (display_of s) (values_of s) p q memory
      ≡ record { number = 0; place = 0; colour = stored_pixel s.depth memory (n / 8) (7 - n % 8); address = n / 8; bit = 7 - n % 8 }
  unfolding display_of read_at
  reads =
      let w = place_of s.depth s.rotation s.flag (values_of s) p q in
      let n = shown_bit s p q in
      let there = demand_2 m s f p q pw qh in
      let address : pixel_byte s.depth (w.up - w.down) w.pixel ≡ n / 8 = omega (arith, there.dword, there.lane) in
      let bit : pixel_bit s.depth w.pixel ≡ 7 - n % 8 = bit_is s.depth w.pixel (accepted m s f).depth ∙ omega (arith, there.lane) in
      reading_is m (display_of s) (values_of s) p q memory not_refused
      ∙ (λ i. record { number = 0; place = 0; colour = stored_pixel_lem s.depth memory (w.up - w.down) w.pixel i; address = pixel_byte s.depth (w.up - w.down) w.pixel; bit = pixel_bit s.depth w.pixel })
      ∙ (λ i. record { number = 0; place = 0; colour = stored_pixel s.depth memory (address i) (bit i); address = address i; bit = bit i })
