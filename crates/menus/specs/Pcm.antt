-- Document 01, 'Octets of the menu' and 'Menus we make': PCM options, and which of them pair.
use Rattle.std.specs.Prelude.{ℕ, ◌+◌, ◌*◌, ◌/◌, ◌%◌}

-- the options of a PCM group: "b5 analogue, b6 digital, b7 V.91", b5 lowest
abbrev pub analogue : ℕ → ℕ
analogue options = options % 2

abbrev pub digital : ℕ → ℕ
digital options = options / 2 % 2

abbrev pub v91 : ℕ → ℕ
v91 options = options / 4 % 2

-- one end's options that pair with the other end's: "b5 if ours is analogue and theirs digital, b6 if ours is digital and theirs analogue,
-- .. b7 if both have V.91"; a product of bits is 1 where both are
unfoldable pub paired : ℕ → ℕ → ℕ
paired theirs ours = analogue ours * digital theirs + 2 * (digital ours * analogue theirs) + 4 * (v91 ours * v91 theirs)
