-- Refusal 29 from what the functions found: the surface, the addresses and a line's bytes.
use Prim.Native.Nat.{ℕ, ◌*◌, ◌<◌, ◌≤◌}
use mathlib.Core.Path.{◌≡◌, sym, ◌∙◌}
use mathlib.Core.Bool.{Bool, false, ◌&&◌}
use native.Mathlib.Nat.{le_of_lt}
use lib.Dec.{ltb}
use borrow.Author.Tests.{lt-ltb, le-ltb}
use Rattle.screen.specs.Image.{line_bytes}
use Rattle.screen.specs.declared.Image.{Image}
use Rattle.screen.specs.declared.Screen.{Screen}
use Rattle.command.specs.Command.{surface_of, destination_of, source_of, rectangle_at, pattern_at}
use Rattle.command.specs.Sharing.{share_byte}
use Rattle.command.specs.declared.Command.{Command}
use Rattle.command_share.specs.Run.{lines_meet}
use Rattle.command_share.proofs.Run.{with_run, with_block}

module _ (s : Screen) (c : Command) (d a : ℕ) (g : d ≡ destination_of s c) (h : a ≡ source_of s c) where
  -- a destination that starts no higher than the source
  pub source_apart : d ≤ a → false ≡ (ltb (source_of s c) (destination_of s c) && share_byte (rectangle_at s c (source_of s c)) (rectangle_at s c (destination_of s c)))
  source_apart l = rw (← g, ← h, le-ltb a d l)

  -- the source's lines and the destination's first
  pub source_shared : (i : Image) (size : ℕ) (r : Bool) → i ≡ surface_of s c → size ≡ line_bytes s.depth c.width → a < d → r ≡ lines_meet a i.line size c.height d size
      → r ≡ (ltb (source_of s c) (destination_of s c) && share_byte (rectangle_at s c (source_of s c)) (rectangle_at s c (destination_of s c)))
  source_shared i size r e f l p = rw (← g, ← h, lt-ltb a d l, ← e, ← f) (p ∙ sym (with_block a i.line size c.height d (le_of_lt l)))

-- the destination's lines and the pattern
pub pattern_shared : (s : Screen) (c : Command) (i : Image) (size d : ℕ) (r : Bool) → i ≡ surface_of s c → size ≡ line_bytes s.depth c.width → d ≡ destination_of s c
    → r ≡ lines_meet d i.line size c.height c.pattern (8 * s.depth) → r ≡ share_byte (rectangle_at s c (destination_of s c)) (pattern_at s c)
pattern_shared s c i size d r e f g p = p ∙ sym (with_run d i.line size c.height c.pattern (8 * s.depth)) ∙ (rw (e, f, g))
