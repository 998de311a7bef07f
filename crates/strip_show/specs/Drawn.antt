-- What the program `strip` leaves in the display memory: the strip of the samples, drawn on the screen in its depth.
use Rattle.std.specs.Prelude.{ℕ, cond, List, eqb}
use Rattle.record.specs.Checks.{first_of}
use Rattle.screen.specs.Screen.{memory_size, fields_of, screen_rows}
use Rattle.command.specs.Task.{short_form, task}
use Rattle.unit.specs.Draw.{memory_drawn}
use Rattle.ring.specs.declared.Ring.{Ring}
use Rattle.wear.specs.Strip.{Strip, strip_for, strip_list, strip_words, stripping}
use Rattle.wear.specs.declared.Ask.{Ask}
use Rattle.font.specs.Factory.{factory_font}

-- an ask in a screen's depth
abbrev pub ask_for : ℕ → Ask → Ask
ask_for depth a =
    record { hours = a.hours; depth = depth; x = a.x; y = a.y; column = a.column; bar = a.bar; background = a.background }

-- the memory with a strip drawn on a screen, where the strip is accepted: the list has room for 64 commands, the words for five glyphs at
-- depth 16, the stream for 2 MiB
unfoldable pub strip_made : Strip → List ℕ → List ℕ → List ℕ
strip_made t screen memory =
    cond (eqb (stripping t 2048 320).number 0) (memory_drawn memory_size (task short_form screen (strip_list t) (strip_words t)) 2097152 memory) memory

-- the memory afterwards: with the strip drawn in the screen's depth, with our factory font, where the screen is accepted
unfoldable pub strip_drawn : Ring → Ask → List ℕ → List ℕ → List ℕ → List ℕ
strip_drawn r a site screen memory =
    cond (eqb (first_of (screen_rows memory_size screen)) 0)
    (strip_made (strip_for r (ask_for (fields_of screen).depth a) site factory_font) screen memory)
    memory
