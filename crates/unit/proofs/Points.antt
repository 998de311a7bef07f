-- At each panel point of an accepted screen the reader gives what the sheet shows and where it stands, over any memory.
use mathlib.Core.Path.{◌≡◌, sym, ap, ◌∙◌}
use mathlib.Core.Bool.{true}
use mathlib.Core.List.{List}
use Prim.Native.Nat.{ℕ, ◌-◌, ◌/◌, ◌%◌, ◌≤◌, ◌<◌}
use lib.ListN.{length}
use Rattle.record.specs.Lists.{AllBelow}
use Rattle.record.specs.Checks.{first_of}
use Rattle.pixel.specs.Depth.{is_depth}
use Rattle.pixel.specs.Pixel.{stored_pixel}
use Rattle.screen.specs.Screen.{field_rows}
use Rattle.screen.specs.Values.{values_of}
use Rattle.screen.specs.declared.Screen.{Screen}
use Rattle.screen.proofs.Accepted.{accepted}
use Rattle.view.specs.Shows.{shown_bit}
use Rattle.view.proofs.Demand.{shown_either}
use Rattle.reader.specs.Read.{Reading, reading, display_of}
use Rattle.reader.proofs.Accepted.{reads}
use Rattle.reader.proofs.Answer.{standing}
use Rattle.unit.specs.Sheet.{sheet_shows, shown_address, shown_place}
use Rattle.unit.specs.Point.{sheet_point, LooksTruly}
use Rattle.unit.proofs.Shown.{address_is, place_is, pixel_is}

-- byte, place and colour of what a panel point shows, by the bits shown there
module _ (s : Screen) (deep : is_depth s.depth ≡ true) (p q : ℕ) where
  shown_address_lem : shown_address s p q ≡ shown_bit s p q / 8
  unfolding shown_address
  shown_address_lem =
      shown_either (λ n a. a ≡ n / 8) s p q _ _ (λ t. address_is s.depth _ _) (address_is s.depth _ _)

  shown_place_lem : shown_place s p q ≡ 7 - shown_bit s p q % 8
  unfolding shown_place
  shown_place_lem =
      shown_either (λ n b. b ≡ 7 - n % 8) s p q _ _ (λ t. place_is s.depth deep _ _) (place_is s.depth deep _ _)

  shown_colour : (memory : List ℕ) → AllBelow 256 memory → sheet_shows s memory p q ≡ stored_pixel s.depth memory (shown_bit s p q / 8) (7 - shown_bit s p q % 8)
  unfolding sheet_shows
  shown_colour memory bytes =
      shown_either (λ n c. c ≡ stored_pixel s.depth memory (n / 8) (7 - n % 8)) s p q _ _
      (λ t. pixel_is memory bytes s.depth deep _ _) (pixel_is memory bytes s.depth deep _ _)

module _ (m : ℕ) (s : Screen) (e : first_of (field_rows m s) ≡ 0) (flag : s.flag ≤ 1) (small : m ≤ 262144)
    (memory : List ℕ) (len : length memory ≡ m) (bytes : AllBelow 256 memory) (p q : ℕ) (hp : p < s.width) (hq : q < s.height) where
  deep : is_depth s.depth ≡ true
  deep = (accepted m s e).depth

  pub reads_sheet : reading m (display_of s) (values_of s) p q memory ≡ sheet_point s memory p q
  unfolding sheet_point
  reads_sheet =
      reads m s e flag small memory len p q hp hq
      ∙ sym (λ i. record { number = 0; place = 0; colour = shown_colour s deep p q memory bytes i; address = shown_address_lem s deep p q i; bit = shown_place_lem s deep p q i })

  pub looks_truly : LooksTruly m s memory p q (reading m (display_of s) (values_of s) p q memory)
  unfolding display_of
  looks_truly =
      let r = reads m s e flag small memory len p q hp hq in
      let none = ap (λ (x : Reading). x.number) r in
      record {
        accepted = none;
        address = ap (λ (x : Reading). x.address) r;
        bit = ap (λ (x : Reading). x.bit) r;
        stands = standing m (display_of s) (values_of s) p q memory none;
        sheet = reads_sheet;
      }
