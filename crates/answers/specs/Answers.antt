-- The answers of the C library (include/s1d.h): the numbers of 01, "Refusal numbers", and of 02, f, field by field.
use Rattle.std.specs.Prelude.{ℕ, List}
use Rattle.screen.specs.Values.{six_values}
use Rattle.screen.specs.declared.ScreenValues.{ScreenValues}
use Rattle.compiler.specs.Compile.{Compiling}
use Rattle.compiler.specs.Part.{part_from, part_size}
use Rattle.reader.specs.Read.{Reading}
use Rattle.reader.specs.declared.Display.{Display}
use Rattle.unit.specs.Draw.{Drawing}
use Rattle.ring.specs.Samples.{Telling}
use Rattle.wear.specs.Font.{Finding}
use Rattle.wear.specs.Strip.{Stripping}
use Rattle.answers.specs.declared.S1dCompiled.{S1dCompiled}
use Rattle.answers.specs.declared.S1dPoint.{S1dPoint}
use Rattle.answers.specs.declared.S1dDrawn.{S1dDrawn}
use Rattle.answers.specs.declared.S1dValues.{S1dValues}
use Rattle.answers.specs.declared.S1dHour.{S1dHour}
use Rattle.answers.specs.declared.S1dStrip.{S1dStrip}
use Rattle.answers.specs.declared.S1dGlyph.{S1dGlyph}

-- compiling's numbers, and where the refused command's part of the list, in its form, starts, with its length
unfoldable pub compiled_of : ℕ → Compiling → List ℕ → S1dCompiled
compiled_of form c list =
    record {
      number = c.number;
      place = c.place;
      length = c.length;
      depth = c.depth;
      rotation = c.rotation;
      flag = c.flag;
      part_at = part_from form list c;
      part_length = part_size form list c;
    }

-- the panel's settings from their numbers
abbrev pub display_with : ℕ → ℕ → ℕ → ℕ → ℕ → Display
display_with depth rotation flag width height = record { depth = depth; rotation = rotation; flag = flag; width = width; height = height }

-- the reader's number and colour, and where it looked
unfoldable pub point_of : Reading → S1dPoint
point_of r = record { number = r.number; colour = r.colour; address = r.address; bit = r.bit }

-- drawing's number, place, length and six values
unfoldable pub drawn_of : Drawing → S1dDrawn
drawn_of d = record { number = d.number; place = d.place; length = d.length; values = six_values d.values }

-- six values in the stream's order
unfoldable pub values_in : ScreenValues → S1dValues
values_in v = record { values = six_values v }

-- what is told of an hour
unfoldable pub hour_given : Telling → S1dHour
hour_given t = record { number = t.number; sampled = t.sampled; height = t.height }

-- a strip's number and both lengths
unfoldable pub strip_given : Stripping → S1dStrip
strip_given s = record { number = s.number; list_length = s.bytes; words_length = s.words }

-- where a glyph stands
unfoldable pub glyph_given : Finding → S1dGlyph
glyph_given f = record { number = f.number; site = f.site; at = f.at; length = f.length }
