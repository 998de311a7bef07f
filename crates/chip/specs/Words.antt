-- Data words that are taken at once, and the claims that they are so as one by one. Nothing of 01 cites it.
use Rattle.std.specs.Prelude.{ℕ, zero, suc, ◌+◌, ◌-◌, ◌*◌, ◌≤◌, min, ◌≡◌, List, [], ◌∷◌, ◌++◌, Bool, true, ◌&&◌, cond, length, take}
use Rattle.record.specs.declared.Record.{Record}
use Rattle.blit.specs.Words.{words_across, chip_words}
use Rattle.chip.specs.Register.{fits}
use Rattle.chip.specs.Start.{bytes_of, width_of, height_of, write_of}
use Rattle.chip.specs.Admit.{is_data, no_data, due_after}
use Rattle.chip.specs.Play.{run, applied}
use Rattle.chip.specs.declared.Registers.{Registers}
use Rattle.chip.specs.declared.Due.{Due}
use Rattle.chip.specs.declared.Chip.{Chip}

-- ---- records

-- a data word in its field
abbrev pub is_word : Record → Bool
is_word r = is_data r && fits r.number r.value

-- how many stand at the front of records
unfoldable pub words_ahead : List Record → ℕ
words_ahead [] = 0
words_ahead (r ∷ rs) = cond (is_word r) (suc (words_ahead rs)) 0

-- every record is one
unfoldable pub OnlyWords : List Record → Type 0
OnlyWords [] = Unit {0}
OnlyWords (r ∷ rs) = (is_word r ≡ true) × OnlyWords rs

unfoldable pub values_of : List Record → List ℕ
values_of [] = []
values_of (r ∷ rs) = r.value ∷ values_of rs

-- ---- what is due

-- words of a line
abbrev pub line_words : Registers → ℕ
line_words b = words_across (bytes_of b) (width_of b)

-- words that are due of the line: from the due one on. A word past its line, which no stream leads to, is that line's last.
unfoldable pub due_in_line : Registers → Due → ℕ
due_in_line b d = line_words b - min d.word (line_words b - 1)

-- and those of the lines after it. A line past the last is the last.
unfoldable pub due_in_all : Registers → Due → ℕ
due_in_all b d = (height_of b - (d.line + 1)) * line_words b + due_in_line b d

-- what is due once n words have come, one by one
unfoldable pub due_after_words : Registers → ℕ → Due → Due
due_after_words b zero d = d
due_after_words b (suc n) d = due_after_words b n (due_after b d)

abbrev pub chip_after_words : Chip → ℕ → Chip
chip_after_words c n = record { screen = c.screen; blit = c.blit; due = due_after_words c.blit n c.due }

-- how many words at the front of records are due
unfoldable pub words_taken : Chip → List Record → ℕ
words_taken c rs = cond c.due.any (words_ahead (take (due_in_all c.blit c.due) rs)) 0

-- ---- the claims, of any chip in which data is due

-- admitting: a run of due data words is not refused, and what is due goes on by the run
abbrev pub Admitting : Type 0
Admitting =
    (m : ℕ) (c : Chip) (i : ℕ) (ws rest : List Record) → c.due.any ≡ true → OnlyWords ws → length ws ≤ due_in_all c.blit c.due
    → run m c i (ws ++ rest) ≡ run m (chip_after_words c (length ws)) (i + length ws) rest

-- nothing but due data words is admitted
abbrev pub AdmittingNoOther : Type 0
AdmittingNoOther =
    (m : ℕ) (c : Chip) (i : ℕ) (ws rest : List Record) → c.due.any ≡ true → length ws ≤ due_in_all c.blit c.due
    → (run m c i (ws ++ rest)).number ≡ 0 → OnlyWords ws

-- applying: a run within the due word's line draws its words into that line
abbrev pub Applying : Type 0
Applying =
    (c : Chip) (ws rest : List Record) (old : List ℕ) → OnlyWords ws → length ws ≤ due_in_line c.blit c.due
    → applied c (ws ++ rest) old
    ≡ applied (chip_after_words c (length ws)) rest (chip_words (write_of c.blit (λ i j. 0)) c.due.line c.due.word (values_of ws) old)

-- after all words that are due, none is
abbrev pub NoneLeft : Type 0
NoneLeft = (b : Registers) (d : Due) → due_after_words b (due_in_all b d) d ≡ no_data
