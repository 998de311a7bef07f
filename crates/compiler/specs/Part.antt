-- The refused command as a part of the caller's list (01: "A refused command is also handed back as the 32-byte part of the
-- list it stands in; otherwise the part is empty, at the list's start"; 02, g: "a refused command comes back as its 48 bytes").
use Rattle.std.specs.Prelude.{ℕ, ◌*◌, ◌/◌, List, Bool, ◌&&◌, cond, length, ltb}
use Rattle.std.specs.Borrow.{Bor}
use Rattle.record.specs.Part.{IsPart}
use Rattle.command.specs.Command.{names_command}
use Rattle.compiler.specs.Compile.{Compiling}

-- an answer refuses the command of the list, in a form, that its place names
abbrev pub of_command : ℕ → List ℕ → Compiling → Bool
of_command form list c = names_command c.number && ltb c.place (length list / form)

-- where the part of an answer starts, and its length
unfoldable pub part_from : ℕ → List ℕ → Compiling → ℕ
part_from form list c = cond (of_command form list c) (c.place * form) 0

unfoldable pub part_size : ℕ → List ℕ → Compiling → ℕ
part_size form list c = cond (of_command form list c) form 0

abbrev pub RefusedPart : ℕ → Bor (List ℕ) → Bor (List ℕ) → Compiling → Type 0
RefusedPart form list r c = IsPart list r (part_from form list.now c) (part_size form list.now c)
