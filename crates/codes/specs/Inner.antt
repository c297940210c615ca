-- What the private functions of this crate promise each other: what is not refused, as a number. No public promise names it.
use Rattle.std.specs.Prelude.{ℕ, ◌+◌, ◌%◌, ◌^◌, true, false, Option, Some, None, ℤ, pos}
use Rattle.listening.specs.declared.Heard.{Heard}
use Rattle.listening.specs.declared.Heard.TheVariants as heard
use Rattle.choices.specs.declared.Choice.{Choice}
use Rattle.choices.specs.declared.Choice.TheVariants as chosen

-- nothing, CI, a menu, an agreed menu, CJ
abbrev pub report_code : Heard → ℤ
report_code heard.Nothing = pos 0
report_code (heard.Ci span) = pos 1
report_code (heard.Menu span false) = pos 2
report_code (heard.Menu span true) = pos 3
report_code heard.Cj = pos 4

-- a span, 0 for none
abbrev pub length_code : Option ℕ → ℤ
length_code None = pos 0
length_code (Some n) = pos n

-- a place as far as an i32 holds it, 64 for nowhere
abbrev pub place_code : Option ℕ → ℤ
place_code None = pos 64
place_code (Some n) = pos (n % 2 ^ 31)

-- none, an item as itself, PCM options above 16
abbrev pub mode_code : Choice → ℤ
mode_code chosen.Nothing = pos 0
mode_code (chosen.Mode i) = pos i.0
mode_code (chosen.Pcm options) = pos (16 + options)
