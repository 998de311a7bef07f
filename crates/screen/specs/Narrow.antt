-- Screen values that fit 32 bits. Only contracts of inner functions cite it.
use Rattle.std.specs.Prelude.{◌<◌, ◌^◌}
use Rattle.screen.specs.declared.ScreenValues.{ScreenValues}

pub record Narrow (v : ScreenValues) : Type 0 where
  pub main_start : v.main.start < 2 ^ 32
  pub main_offset : v.main.offset < 2 ^ 32
  pub window_start : v.window.start < 2 ^ 32
  pub window_offset : v.window.offset < 2 ^ 32
  pub x : v.x < 2 ^ 32
  pub y : v.y < 2 ^ 32
