use Rattle.refusal.specs.Number.{number, rows_from}
use Rattle.screen.specs.Screen.{field_rows}
use Rattle.screen_code.proofs.check_fields.Goals as goal

pub returns : goal.returns
unfolding field_rows rows_from number
returns c = simp (c.first_of.ensures, c.is_image-2.ensures, c.is_line-2.ensures, c.is_window_whole.ensures, c.is_window.ensures, c.is_image.ensures, c.is_line.ensures, c.is_whole.ensures, c.is_panel.ensures, c.is_depth.ensures, c.window_image-window.ensures, c.main_image-main.ensures)
