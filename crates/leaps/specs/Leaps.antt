-- Document 01, 'Listening': many bits, up to the first that asks for something.
use Rattle.std.specs.Prelude.{ℕ, ◌+◌, List, [], ◌∷◌, eqb}
use Rattle.laws.specs.Logic.{when}
use Rattle.framing.specs.declared.Ear.{Ear}
use Rattle.framing.specs.declared.Turned.{Turned}
use Rattle.framing.specs.Framing.{nothing, stay, turned_by}
use Rattle.leaps.specs.declared.Advanced.{Advanced}

abbrev pub advanced_to : Turned → ℕ → Advanced
advanced_to t at = record { ear = t.ear; act = t.act; at = at }

-- bit after bit, up to the first that asks for something, where the first of them stands at n
unfoldable pub advanced : Ear → ℕ → List ℕ → ℕ → Advanced
advanced ear len [] n = advanced_to (stay ear nothing) n
advanced ear len (bit ∷ bits) n =
    when (eqb (turned_by ear len bit).act nothing) (advanced (turned_by ear len bit).ear len bits (n + 1))
    (advanced_to (turned_by ear len bit) (n + 1))
