-- What a stream starts (02, j and k): at each start the registers that the started operation uses, and the data words that follow.
use Rattle.std.specs.Prelude.{ℕ, List, [], ◌∷◌, Bool, true, cond}
use Rattle.record.specs.declared.Record.{Record}
use Rattle.command.specs.Values.{uses}
use Rattle.chip.specs.Register.{blit_after}
use Rattle.chip.specs.Start.{operation, by_blit}
use Rattle.chip.specs.Admit.{is_data, starts}
use Rattle.chip.specs.Play.{new_chip}
use Rattle.chip.specs.declared.Registers.{Registers}

-- whether operation k of the chip (002 section 9.1: 0 write, 2 and 3 moves, 5 transparent move, 6 and 7 pattern fills, Ch fill) uses register n:
-- as the command does that it draws (01, "Blits": "Every operation uses .."; 02, h). An operation that the model does not have may use any
abbrev pub uses_blit : ℕ → ℕ → Bool
uses_blit k n = by_blit k (uses 2 n) (uses 1 n) (uses 1 n) (uses 5 n) (uses 3 n) (uses 4 n) (uses 0 n) true

-- the value v of register n, if the operation that the registers name uses it; else 0
abbrev pub if_used : Registers → ℕ → ℕ → ℕ
if_used b n v = cond (uses_blit (operation b) n) v 0

-- the registers that their operation uses, all others 0
unfoldable pub used_of : Registers → Registers
used_of b =
    record {
      control = if_used b 0x8000 b.control;
      command = if_used b 0x8008 b.command;
      source = if_used b 0x800C b.source;
      destination = if_used b 0x8010 b.destination;
      offset = if_used b 0x8014 b.offset;
      width = if_used b 0x8018 b.width;
      height = if_used b 0x801C b.height;
      background = if_used b 0x8020 b.background;
      foreground = if_used b 0x8024 b.foreground;
    }

-- a start: the registers that it uses, and the data words behind it
pub record Start : Type 0 where
  pub registers : Registers
  pub words : List ℕ

-- the data words of records, up to the next start
unfoldable pub words_behind : List Record → List ℕ
words_behind [] = []
words_behind (r ∷ rs) = cond (is_data r) (r.value ∷ words_behind rs) (cond (starts r) [] (words_behind rs))

-- the starts of records, in order, the blit registers being b before them
unfoldable pub starts_from : Registers → List Record → List Start
starts_from b [] = []
starts_from b (r ∷ rs) =
    let now = blit_after b r.number r.value in
    cond (starts r) (record { registers = used_of now; words = words_behind rs } ∷ starts_from now rs) (starts_from now rs)

-- the starts of a stream's records: "all registers begin at 0"
abbrev pub starts_in : List Record → List Start
starts_in rs = starts_from new_chip.blit rs
