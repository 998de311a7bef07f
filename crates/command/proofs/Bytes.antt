-- A command and its 32 bytes: each gives the other.
use Prim.Native.Nat.{ℕ, zero, suc, ◌+◌, ◌*◌, ◌/◌, ◌%◌, ◌<◌, ◌≤◌}
use mathlib.Core.Path.{◌≡◌, refl, sym, ap, ◌∙◌}
use mathlib.Core.List.{List, [], ◌∷◌, ◌++◌}
use mathlib.Core.Bool.{true}
use native.Mathlib.Omega.{arith}
use lib.ListN.{length, get_or, take, drop, replicate, length-drop}
use lib.Seq.{take_all}
use lib.Dec.{eqb}
use borrow.Author.Tests.{eqb-true}
use Rattle.record.specs.Bytes.{byte_at, u16_at, all_zero}
use Rattle.record.specs.Lists.{AllBelow, tabulate}
use Rattle.record.proofs.Choice.{and_left, and_right}
use Rattle.command.specs.Command.{command_of, command_bytes}
use Rattle.command.specs.declared.Command.{Command}

-- numbers that a record has room for
pub record Fits (c : Command) : Type 0 where
  pub operation : c.operation < 256
  pub surface : c.surface < 256
  pub raster : c.raster < 256
  pub x : c.x < 65536
  pub y : c.y < 65536
  pub width : c.width < 65536
  pub height : c.height < 65536
  pub sx : c.sx < 65536
  pub sy : c.sy < 65536
  pub colour : c.colour < 65536

-- and a command that a record of 32 bytes holds
pub record Storable (c : Command) : Type 0 where
  pub fits : Fits c
  pub key : c.key ≡ 0
  pub px : c.px ≡ 0
  pub py : c.py ≡ 0
  pub pattern : c.pattern ≡ 0

-- ---- a number and its two bytes
word_back : (v : ℕ) → v < 65536 → v % 256 + 256 * (v / 256 % 256) ≡ v
word_back v h = omega arith

low_back : (a b : ℕ) → a < 256 → (a + 256 * b) % 256 ≡ a
low_back a b h = omega arith

high_back : (a b : ℕ) → a < 256 → b < 256 → (a + 256 * b) / 256 % 256 ≡ b
high_back a b h k = omega arith

pub command_back : (c : Command) → Storable c → command_of (command_bytes c) ≡ c
unfolding command_of command_bytes
command_back c h =
    let f = h.fits in
    rw (word_back c.x f.x, word_back c.y f.y, word_back c.width f.width, word_back c.height f.height, word_back c.sx f.sx, word_back c.sy f.sy, word_back c.colour f.colour, h.key, h.px, h.py, h.pattern)

-- ---- a list by its elements
first_are : (n : ℕ) (b : List ℕ) → n ≤ length b → tabulate n (λ k. get_or b k 0) ++ drop n b ≡ b
first_are zero b h = refl
first_are (suc n) [] h = absurd (omega arith)
first_are (suc n) (x ∷ b) h = ap (λ (l : List ℕ). x ∷ l) (first_are n b (omega arith))

pub zeros_are : (b : List ℕ) → all_zero b ≡ true → b ≡ replicate (length b) 0
unfolding all_zero
zeros_are [] e = refl
zeros_are (x ∷ b) e =
    let p : x ≡ 0 = eqb-true x 0 (and_left (eqb x 0) (all_zero b) e) in
    rw (p, ← zeros_are b (and_right (eqb x 0) (all_zero b) e))

module _ (b : List ℕ) (h : length b ≡ 32) (l : AllBelow 256 b) (z : byte_at b 3 ≡ 0) (e : all_zero (take 14 (drop 18 b)) ≡ true) where
  low : (k : ℕ) → u16_at b k % 256 ≡ byte_at b k
  low k = low_back (byte_at b k) (byte_at b (k + 1)) (l k)

  high : (k : ℕ) → u16_at b k / 256 % 256 ≡ byte_at b (k + 1)
  high k = high_back (byte_at b k) (byte_at b (k + 1)) (l k) (l (k + 1))

  -- the bytes from 18 on
  rest_is : drop 18 b ≡ replicate 14 0
  rest_is =
      let n : length (drop 18 b) ≡ 14 = rw length-drop (rw h) in
      let w : take 14 (drop 18 b) ≡ drop 18 b = take_all 14 (drop 18 b) (omega arith) in
      zeros_are (drop 18 b) (ap all_zero (sym w) ∙ e) ∙ ap (λ (k : ℕ). replicate k 0) n

  pub bytes_back : command_bytes (command_of b) ≡ b
  unfolding command_of command_bytes
  bytes_back = (rw (low 4, high 4, low 6, high 6, low 8, high 8, low 10, high 10, low 12, high 12, low 14, high 14, low 16, high 16, z, rest_is)) ∙ first_are 18 b (omega arith)
