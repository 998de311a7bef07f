-- Compiling for the chip that is named: the older S1D13706, or the S1D13A05.
use Rattle.std.specs.Prelude.{ℕ, Bool, cond, List}
use Rattle.screen.specs.Screen.{memory_size}
use Rattle.command.specs.Task.{Task}
use Rattle.compiler.specs.Compile.{Compiling, compiling, buffer_after}
use Rattle.older.specs.Compile.{older_compiling, older_buffer}

-- the answer, for a stream buffer of `room` bytes
unfoldable pub compiling_for : Bool → Task → ℕ → Compiling
compiling_for older t room = cond older (older_compiling t room) (compiling memory_size t room)

-- the stream buffer afterwards
unfoldable pub buffer_for : Bool → Task → List ℕ → List ℕ
buffer_for older t old = cond older (older_buffer t old) (buffer_after memory_size t old)
