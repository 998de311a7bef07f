-- The line of a refusal: its number, its place and its reason.
use Rattle.std.specs.Prelude.{ℕ, List, [], ◌∷◌, ◌++◌, get_or}
use Prim.Native.String.{String}
use Rattle.text.specs.Text.{letters, decimal}

-- why 0, 1 and so on are given (01, "Refusal numbers"; 02, c, d, f, g and h): what differs for the S1D13706 stands behind "13706:"
abbrev pub reasons : List String
reasons =
    "accepted"
    ∷ "screen record not 32 bytes, flag above 1, or a spare byte not zero"
    ∷ "depth not 1, 2, 4, 8 or 16"
    ∷ "rotation above 3"
    ∷ "panel width not a multiple of 8 in 8 to 1024, or height not 1 to 1024"
    ∷ "view width not a multiple of 32 / depth"
    ∷ "main base not a multiple of 4, or image past byte 262144 (13706: 81920)"
    ∷ "window width or height 0, or window outside the view"
    ∷ "window x or width not a multiple of 32 / depth"
    ∷ "window base not a multiple of 4, or image past byte 262144 (13706: 81920)"
    ∷ "list not a multiple of 32 bytes (long form: 48), or over 64 commands"
    ∷ "a command at a depth below 8 (13706: at any depth)"
    ∷ "operation, surface, raster code, colour or pattern out of range, or a spare byte not zero"
    ∷ "rectangle width or height 0"
    ∷ "destination or source outside the surface"
    ∷ "too few host words"
    ∷ "host words left over"
    ∷ "stream buffer shorter than the stream"
    ∷ "memory not 262144 bytes (13706: 81920)"
    ∷ "stream not a multiple of 8 bytes"
    ∷ "number not a listed register nor 10000h"
    ∷ "value outside its field, or start of no operation"
    ∷ "blit outside the memory"
    ∷ "data word when none is due, or none when one is due"
    ∷ "panel point outside the panel"
    ∷ "dword address outside 0 to 65535 (13706: 20479)"
    ∷ "line length below the shown width, not a multiple of 32 / depth, or over 1023 dwords"
    ∷ "sample not 1 to 512 steps ahead or above 100, or age, hours, column, font, digit or place out of range"
    ∷ "operation above 2, or a byte past 31 not zero: no record of 32 bytes"
    ∷ "pattern, or source of a transparent move to a higher address, shares a byte with the destination"
    ∷ []

-- the reason of a number; none for one that is not given
unfoldable pub reason : ℕ → List ℕ
reason n = letters (get_or reasons n "")

-- a refusal's line: number, place and reason
unfoldable pub refusal_line : ℕ → ℕ → List ℕ
refusal_line n place =
    letters "refused " ++ decimal n ++ letters " " ++ decimal place ++ letters ": " ++ (reason n ++ letters "\n")
