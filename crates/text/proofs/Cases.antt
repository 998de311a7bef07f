-- Numbers, reasons and the line of a refusal, computed.
use mathlib.Core.Path.{◌≡◌, refl}
use mathlib.Core.List.{[], ◌++◌}
use Rattle.text.specs.Text.{letters, last_decimal_digits, decimal}
use Rattle.text.specs.Refusal.{reason, refusal_line}

decimals : decimal 0 ++ letters " " ++ decimal 9 ++ letters " " ++ decimal 10 ++ letters " " ++ decimal 18446744073709551615 ≡ letters "0 9 10 18446744073709551615"
unfolding decimal last_decimal_digits
decimals = refl

refusal : refusal_line 14 7 ≡ letters "refused 14 7: destination or source outside the surface\n"
unfolding refusal_line reason decimal last_decimal_digits
refusal = refl

first_reason : reason 1 ≡ letters "screen record not 32 bytes, flag above 1, or a spare byte not zero"
unfolding reason
first_reason = refl

point_reason : reason 25 ≡ letters "dword address outside 0 to 65535 (13706: 20479)"
unfolding reason
point_reason = refl

-- where the S1D13706 has other numbers
older_reasons : (reason 6 ≡ letters "main base not a multiple of 4, or image past byte 262144 (13706: 81920)")
    × (reason 9 ≡ letters "window base not a multiple of 4, or image past byte 262144 (13706: 81920)")
    × (reason 11 ≡ letters "a command at a depth below 8 (13706: at any depth)")
    × (reason 18 ≡ letters "memory not 262144 bytes (13706: 81920)")
unfolding reason
older_reasons = (refl, refl, refl, refl)

line_reason : reason 26 ≡ letters "line length below the shown width, not a multiple of 32 / depth, or over 1023 dwords"
unfolding reason
line_reason = refl

strip_reason : reason 27 ≡ letters "sample not 1 to 512 steps ahead or above 100, or age, hours, column, font, digit or place out of range"
unfolding reason
strip_reason = refl

form_reasons : (reason 10 ≡ letters "list not a multiple of 32 bytes (long form: 48), or over 64 commands")
    × (reason 28 ≡ letters "operation above 2, or a byte past 31 not zero: no record of 32 bytes")
unfolding reason
form_reasons = (refl, refl)

pattern_reasons : (reason 12 ≡ letters "operation, surface, raster code, colour or pattern out of range, or a spare byte not zero")
    × (reason 29 ≡ letters "pattern, or source of a transparent move to a higher address, shares a byte with the destination")
unfolding reason
pattern_reasons = (refl, refl)

no_reason : reason 30 ≡ []
unfolding reason
no_reason = refl
