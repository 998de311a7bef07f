-- 01's cases S1 to S9 (01, "Cases"), each as the numbers that the definitions give beside the numbers that the paper names; and cases of
-- line lengths, whose numbers were worked out by hand from 02, c).
use Rattle.std.specs.Prelude.{ℕ, ◌/◌, ◌%◌, List, [], ◌∷◌, ◌++◌, Bool, true, false, ◌&&◌, Result, Ok, Err, eqb}
use Rattle.record.specs.Bytes.{two_bytes, four_bytes}
use Rattle.refusal.specs.Number.{number as refusal_number}
use Rattle.refusal.specs.declared.Refusal.{Refusal}
use Rattle.screen.specs.Screen.{screen_of, memory_size}
use Rattle.screen.specs.Values.{values_of}
use Rattle.screen.specs.declared.Screen.{Screen}

-- a case: the numbers that the definitions give, and the paper's
pub record Case : Type 0 where
  pub gives : List ℕ
  pub paper : List ℕ

abbrev pub case : List ℕ → List ℕ → Case
case gives paper = record { gives = gives; paper = paper }

-- the same numbers, all of them and no more
abbrev pub same : List ℕ → List ℕ → Bool
same [] [] = true
same [] (y ∷ ys) = false
same (x ∷ xs) [] = false
same (x ∷ xs) (y ∷ ys) = eqb x y && same xs ys

-- every case gives the paper's numbers
unfoldable pub all_hold : List Case → Bool
all_hold [] = true
all_hold (c ∷ cs) = same c.gives c.paper && all_hold cs

-- a screen record: depth, rotation, panel, base, the main image's line length, no window
abbrev pub lined : ℕ → ℕ → ℕ → ℕ → ℕ → ℕ → List ℕ
lined depth rotation width height base line =
    depth ∷ rotation ∷ 0 ∷ 0 ∷ two_bytes width ++ two_bytes height ++ four_bytes base ++ four_bytes 0 ++ four_bytes 0 ++ four_bytes 0 ++ two_bytes line ++ two_bytes 0 ++ four_bytes 0

-- the same, lines as long as the shown width
abbrev pub plain : ℕ → ℕ → ℕ → ℕ → ℕ → List ℕ
plain depth rotation width height base = lined depth rotation width height base 0

-- a screen record of S1's panel, 320 by 240 at depth 4, with a window of width by height at (x, y): the bases and line lengths of the main image
-- and of the window
abbrev pub window_lined : ℕ → ℕ → ℕ → ℕ → ℕ → ℕ → ℕ → ℕ → ℕ → List ℕ
window_lined rotation x y width height base windowBase line windowLine =
    4 ∷ rotation ∷ 1 ∷ 0 ∷ two_bytes 320 ++ two_bytes 240 ++ four_bytes base ++ four_bytes windowBase ++ two_bytes x ++ two_bytes y ++ two_bytes width ++ two_bytes height ++ two_bytes line ++ two_bytes windowLine ++ four_bytes 0

-- the same, bases 0 and lines as long as the shown width
abbrev pub with_window : ℕ → ℕ → ℕ → ℕ → ℕ → List ℕ
with_window rotation x y width height = window_lined rotation x y width height 0 0 0 0

-- the refusal number, then on acceptance the main image's start and offset
abbrev main : Result Screen Refusal → List ℕ
main (Err r) = refusal_number r ∷ []
main (Ok s) = let v = values_of s in 0 ∷ v.main.start ∷ v.main.offset ∷ []

-- the same of the window's
abbrev small : Result Screen Refusal → List ℕ
small (Err r) = refusal_number r ∷ []
small (Ok s) = let v = values_of s in 0 ∷ v.window.start ∷ v.window.offset ∷ []

-- the refusal number, then on acceptance X start, X end, Y start and Y end: the low and the high half of each position register
abbrev window : Result Screen Refusal → List ℕ
window (Err r) = refusal_number r ∷ []
window (Ok s) = let v = values_of s in 0 ∷ v.x % 65536 ∷ v.x / 65536 ∷ v.y % 65536 ∷ v.y / 65536 ∷ []

-- the refusal number alone
abbrev number : Result Screen Refusal → List ℕ
number (Err r) = refusal_number r ∷ []
number (Ok s) = 0 ∷ []

abbrev answer : List ℕ → Result Screen Refusal
answer b = screen_of memory_size b

unfoldable pub screen_cases : List Case
screen_cases =
    -- S1 to S4: start and offset
    case (main (answer (plain 4 0 320 240 0))) (0 ∷ 0 ∷ 0x28 ∷ [])
    ∷ case (main (answer (plain 4 1 320 240 0))) (0 ∷ 0x1D ∷ 0x1E ∷ [])
    ∷ case (main (answer (plain 4 2 320 240 0))) (0 ∷ 0x257F ∷ 0x28 ∷ [])
    ∷ case (main (answer (plain 4 3 320 240 0))) (0 ∷ 0x2562 ∷ 0x1E ∷ [])
    -- S5 to S7: X from and to, Y from and to
    ∷ case (window (answer (with_window 1 64 80 120 160))) (0 ∷ 0x50 ∷ 0xEF ∷ 0x07 ∷ 0x15 ∷ [])
    ∷ case (window (answer (with_window 3 64 80 120 160))) (0 ∷ 0x50 ∷ 0xEF ∷ 0x08 ∷ 0x16 ∷ [])
    ∷ case (window (answer (with_window 2 80 60 160 120))) (0 ∷ 0x0A ∷ 0x1D ∷ 0x3C ∷ 0xB3 ∷ [])
    -- S8, S9
    ∷ case (number (answer (with_window 0 4 0 8 1))) (8 ∷ [])
    ∷ case (number (answer (plain 2 0 1024 1024 0))) (0 ∷ [])
    ∷ case (number (answer (plain 2 0 1024 1024 4))) (6 ∷ [])
    ∷ []

-- line lengths
unfoldable pub line_cases : List Case
line_cases =
    -- S1 to S4 with lines of 640 pixels, 320 bytes: start and offset. At 180 degrees (239 × 320 + 160) ÷ 4 − 1, at 270 319 × 320 ÷ 4.
    case (main (answer (lined 4 0 320 240 0 640))) (0 ∷ 0 ∷ 0x50 ∷ [])
    ∷ case (main (answer (lined 4 1 320 240 0 640))) (0 ∷ 0x1D ∷ 0x50 ∷ [])
    ∷ case (main (answer (lined 4 2 320 240 0 640))) (0 ∷ 0x4AD7 ∷ 0x50 ∷ [])
    ∷ case (main (answer (lined 4 3 320 240 0 640))) (0 ∷ 0x63B0 ∷ 0x50 ∷ [])
    -- S5 to S7 with lines of 640 pixels for the window, whose image is at 38,400 = 9600h: its start and offset, and its edges as they were
    ∷ case (small (answer (window_lined 0 64 80 120 160 0 38400 0 640))) (0 ∷ 0x2580 ∷ 0x50 ∷ [])
    ∷ case (small (answer (window_lined 1 64 80 120 160 0 38400 0 640))) (0 ∷ 0x258E ∷ 0x50 ∷ [])
    ∷ case (small (answer (window_lined 2 80 60 160 120 0 38400 0 640))) (0 ∷ 0x4AC3 ∷ 0x50 ∷ [])
    ∷ case (small (answer (window_lined 3 64 80 120 160 0 38400 0 640))) (0 ∷ 0x5730 ∷ 0x50 ∷ [])
    ∷ case (window (answer (window_lined 1 64 80 120 160 0 38400 0 640))) (0 ∷ 0x50 ∷ 0xEF ∷ 0x07 ∷ 0x15 ∷ [])
    ∷ case (main (answer (window_lined 1 64 80 120 160 0 38400 0 640))) (0 ∷ 0x1D ∷ 0x1E ∷ [])
    -- the last byte is the last shown pixel's: 262,144 − 239 × 320 − 160 is the last base
    ∷ case (number (answer (lined 4 0 320 240 185504 640))) (0 ∷ [])
    ∷ case (number (answer (lined 4 0 320 240 185508 640))) (6 ∷ [])
    ∷ case (number (answer (window_lined 0 64 80 120 160 0 211204 0 640))) (0 ∷ [])
    ∷ case (number (answer (window_lined 0 64 80 120 160 0 211208 0 640))) (9 ∷ [])
    -- the first length that is accepted, and those below and beside it; 1,023 dwords, and 1,024
    ∷ case (main (answer (lined 4 0 320 8 0 320))) (0 ∷ 0 ∷ 0x28 ∷ [])
    ∷ case (number (answer (lined 4 0 320 8 0 312))) (26 ∷ [])
    ∷ case (number (answer (lined 4 0 320 8 0 324))) (26 ∷ [])
    ∷ case (main (answer (lined 4 0 320 8 0 8184))) (0 ∷ 0 ∷ 0x3FF ∷ [])
    ∷ case (number (answer (lined 4 0 320 8 0 8192))) (26 ∷ [])
    ∷ case (main (answer (lined 1 0 320 8 0 32736))) (0 ∷ 0 ∷ 0x3FF ∷ [])
    ∷ case (number (answer (lined 1 0 320 8 0 32768))) (26 ∷ [])
    ∷ case (main (answer (lined 16 0 320 8 0 2046))) (0 ∷ 0 ∷ 0x3FF ∷ [])
    ∷ case (number (answer (lined 16 0 320 8 0 2048))) (26 ∷ [])
    -- the same of the window, 16 by 2
    ∷ case (small (answer (window_lined 0 8 1 16 2 0 40000 0 16))) (0 ∷ 10000 ∷ 2 ∷ [])
    ∷ case (number (answer (window_lined 0 8 1 16 2 0 40000 0 8))) (26 ∷ [])
    ∷ case (number (answer (window_lined 0 8 1 16 2 0 40000 0 20))) (26 ∷ [])
    ∷ case (small (answer (window_lined 0 8 1 16 2 0 40000 0 8184))) (0 ∷ 10000 ∷ 0x3FF ∷ [])
    ∷ case (number (answer (window_lined 0 8 1 16 2 0 40000 0 8192))) (26 ∷ [])
    -- a view turned by 90 degrees is 240 pixels wide: 240 is its first length
    ∷ case (main (answer (lined 4 1 320 240 0 240))) (0 ∷ 0x1D ∷ 0x1E ∷ [])
    ∷ case (number (answer (lined 4 1 320 240 0 232))) (26 ∷ [])
    ∷ []
