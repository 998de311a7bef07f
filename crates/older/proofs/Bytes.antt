-- The six values come back from their eighteen bytes, and the bytes from their records.
use Prim.Native.Nat.{ℕ, ◌+◌, ◌*◌, ◌/◌, ◌%◌, ◌^◌, ◌<◌}
use mathlib.Core.Path.{◌≡◌, refl}
use mathlib.Core.List.{List, [], ◌∷◌, map}
use native.Mathlib.Omega.{arith}
use Rattle.record.proofs.Records.{Small}
use Rattle.screen.specs.Values.{values_of}
use Rattle.screen.specs.declared.Screen.{Screen}
use Rattle.screen.specs.declared.ScreenValues.{ScreenValues}
use Rattle.compiler.specs.Stream.{records_with}
use Rattle.screen.proofs.Fits.{InFields}
use Rattle.older.specs.Bytes.{older_registers, start_in, end_in, older_bytes, older_values}
use Rattle.older.specs.Compile.{older_records, registers_in, bytes_in}

two_back : (n : ℕ) → n < 65536 → n % 256 + 256 * (n / 256 % 256) ≡ n
two_back n h = omega arith

three_back : (n : ℕ) → n < 16777216 → n % 256 + 256 * (n / 256 % 256) + 65536 * (n / 65536 % 256) ≡ n
three_back n h = omega arith

position_back : (v : ℕ) → v % 65536 < 65536 → v / 65536 < 65536
    → v % 65536 % 256 + 256 * (v % 65536 / 256 % 256) + 65536 * (v / 65536 % 256 + 256 * (v / 65536 / 256 % 256)) ≡ v
position_back v h g = omega (arith, two_back (v % 65536) h, two_back (v / 65536) g)

-- values in the fields of the S1D13A05 fit these registers
pub values_back : (v : ScreenValues) → InFields v → older_values (older_bytes v) ≡ v
unfolding older_bytes older_values
values_back v f =
    λ i.
    record {
      main = record { start = three_back v.main.start (omega (arith, f.main.start)) i; offset = two_back v.main.offset (omega (arith, f.main.offset)) i };
      window = record { start = three_back v.window.start (omega (arith, f.window.start)) i; offset = two_back v.window.offset (omega (arith, f.window.offset)) i };
      x = position_back v.x (omega (arith, f.x.start)) (omega (arith, f.x.end)) i;
      y = position_back v.y (omega (arith, f.y.start)) (omega (arith, f.y.end)) i;
    }

-- ---- the records
byte_small : (n : ℕ) → n % 256 < 2 ^ 32
byte_small n = omega arith

with_small : (ns bs : List ℕ) → Small (records_with (map (λ n. n % 256) ns) (map (λ b. b % 256) bs))
unfolding Small records_with
with_small [] bs = tt
with_small (n ∷ ns) [] = tt
with_small (n ∷ ns) (b ∷ bs) = (byte_small n, byte_small b, with_small ns bs)

-- numbers and bytes are below 256
pub records_small : (s : Screen) → Small (older_records s)
unfolding older_records older_bytes
records_small s =
    let m = (values_of s).main in
    let w = (values_of s).window in
    let x = (values_of s).x in
    let y = (values_of s).y in
    with_small older_registers
    (m.start ∷ m.start / 256 ∷ m.start / 65536
    ∷ m.offset ∷ m.offset / 256
    ∷ w.start ∷ w.start / 256 ∷ w.start / 65536
    ∷ w.offset ∷ w.offset / 256
    ∷ start_in x ∷ start_in x / 256
    ∷ start_in y ∷ start_in y / 256
    ∷ end_in x ∷ end_in x / 256
    ∷ end_in y ∷ end_in y / 256
    ∷ [])

-- they write the registers in rising number, each its byte
pub registers_are : (s : Screen) → registers_in (older_records s) ≡ older_registers
unfolding older_records records_with older_bytes
registers_are s = refl

pub bytes_are : (s : Screen) → bytes_in (older_records s) ≡ older_bytes (values_of s)
unfolding older_records records_with older_bytes
bytes_are s = refl
