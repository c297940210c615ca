-- docs/RANGES.md: what a listening record may hold, and the fresh one.
use Rattle.std.specs.Prelude.{ℕ, Bool, leb, replicate}
use Rattle.laws.specs.Logic.{both}
use Rattle.framing.specs.declared.Ear.{Ear}
use Rattle.framing.specs.Framing.{hunting}
use Rattle.framing.specs.Ranges.{ear_in_range}
use Rattle.listening.specs.declared.Message.{Message}
use Rattle.listening.specs.declared.Listener.{Listener}

-- the kind and the count of octets of a message
abbrev pub message_in_range : ℕ → ℕ → Bool
message_in_range kind len = both (leb kind 2) (leb len 64)

-- what a bit looks at: the ear, and the kind and the count of octets of both messages
abbrev pub parts_in_range : Ear → ℕ → ℕ → ℕ → ℕ → Bool
parts_in_range ear kind len lastKind lastLen = both (ear_in_range ear) (both (message_in_range kind len) (message_in_range lastKind lastLen))

-- "listening record .. with a field outside its range" is refused with 10
abbrev pub in_range : Listener → Bool
in_range rec = parts_in_range rec.ear rec.msg.kind rec.msg.len rec.last.kind rec.last.len

-- "In a fresh record nothing has been heard."
abbrev pub empty : Message
empty = record { kind = 0; len = 0; octets = replicate 64 0 }

abbrev pub fresh : Listener
fresh = record { ear = record { past = 0; heard = 0; place = hunting }; msg = empty; last = empty }
