-- Document 01, 'How firm each promise stands': "These must not satisfy it". The code equals these definitions, so none of the named wrong
-- programs can be proved to meet its promise. Each is ruled out as widely as its words reach: one that goes wrong in a part alone too.
use Rattle.std.specs.Prelude.{ℕ, ◌+◌, ◌*◌, ◌≡◌, Bool, false, true, List, ◌∷◌, length, take}
use Rattle.octets.specs.declared.Kind.{Kind}
use Rattle.refusals.specs.Lent.{count, WriteOutcome}
use Rattle.sequences.specs.Line.{sequence, copies, cj}
use Rattle.sequences.specs.Writing.{written, written_cj}
use Rattle.listening.specs.Record.{fresh}
use Rattle.stretches.specs.Hearing.{once_heard, Report, message_of, reports}
use Rattle.menus.specs.declared.Offer.{Offer}
use Rattle.menus.specs.Offer.{offers, menu_read}
use Rattle.records.specs.declared.Record.{Record}
use Rattle.offers.specs.Making.{made_cm, made_jm}
use Rattle.choices.specs.Choosing.{Chosen, none, item, pcm, refusal, choice_of}
use Rattle.demands.specs.Joint.{cm_of, jm_of}

-- what a fresh reader reports on the bits begins with this message, or with these two, and neither is agreed
abbrev pub First : List ℕ → Kind → List ℕ → List Report → Type 0
First bits kind octets rest = reports fresh bits ≡ message_of kind octets false ∷ rest

abbrev pub FirstTwo : List ℕ → Kind → List ℕ → Kind → List ℕ → List Report → Type 0
FirstTwo bits kind octets kind' octets' rest = reports fresh bits ≡ message_of kind octets false ∷ message_of kind' octets' false ∷ rest

-- a choice by its case alone: none is no item, and an item is no PCM
abbrev pub case_of : Chosen → ℕ
case_of none = 0
case_of (item i) = 1
case_of (pcm options) = 2
case_of (refusal n) = 3

abbrev pub chooses : Chosen → Bool
chooses none = true
chooses (item i) = true
chooses (pcm options) = true
chooses (refusal n) = false

-- a menu reader that wherever it reads says this function, these items, these PCM options, LAPM or not, access or not
pub record NoPartOfAnOfferIsConstant : Type 0 where
  pub function : (n : ℕ) → ((octets : List ℕ) (offer : Offer) → menu_read octets ≡ offers offer → offer.function ≡ n) → ⊥
  pub items : (n : ℕ) → ((octets : List ℕ) (offer : Offer) → menu_read octets ≡ offers offer → offer.items ≡ n) → ⊥
  pub options : (n : ℕ) → ((octets : List ℕ) (offer : Offer) → menu_read octets ≡ offers offer → offer.pcm ≡ n) → ⊥
  pub lapm : (t : Bool) → ((octets : List ℕ) (offer : Offer) → menu_read octets ≡ offers offer → offer.lapm ≡ t) → ⊥
  pub access : (t : Bool) → ((octets : List ℕ) (offer : Offer) → menu_read octets ≡ offers offer → offer.access ≡ t) → ⊥
  pub access_options : (n : ℕ) → ((octets : List ℕ) (offer : Offer) → menu_read octets ≡ offers offer → offer.access_options ≡ n) → ⊥

-- a listener that whatever it hears stays where it is in the framing, keeps the message that it hears, or keeps the message reported last
pub record NoPartOfTheRecordStands : Type 0 where
  pub ear : ((bits : List ℕ) → (once_heard fresh bits).ear ≡ fresh.ear) → ⊥
  pub msg : ((bits : List ℕ) → (once_heard fresh bits).msg ≡ fresh.msg) → ⊥
  pub last : ((bits : List ℕ) → (once_heard fresh bits).last ≡ fresh.last) → ⊥

-- wherever a call says that it wrote, it says how many, and they stand at the front of the buffer
pub record CountsWhatItWrote (new : List ℕ) (laid : WriteOutcome) : Type 0 where
  pub counted : (size : ℕ) → laid.answer ≡ count size → size ≡ length new
  pub stands : (size : ℕ) → laid.answer ≡ count size → take size laid.buffer ≡ new

pub record NoNamedWrongProgramFits : Type 0 where
  -- "a reader or writer that only refuses (2 and 3)": one that never reports a message of this kind, or never says what a menu offers
  pub reader : (kind : Kind) → ((bits octets : List ℕ) (rest : List Report) → First bits kind octets rest → ⊥) → ⊥
  pub menus : ((octets : List ℕ) (offer : Offer) → menu_read octets ≡ offers offer → ⊥) → ⊥
  -- one that never says that it wrote a bit, or never writes one
  pub writer : (kind : Kind) → ((octets : List ℕ) (n : ℕ) (out : List ℕ) (size : ℕ) → (written kind octets n out).answer ≡ count size → size ≡ 0) → ⊥
  pub writes : (kind : Kind) → ((octets : List ℕ) (n : ℕ) (out : List ℕ) → (written kind octets n out).buffer ≡ out) → ⊥
  -- "one constant message or choice (2)": wherever a message is reported, it has these octets, or this kind
  pub message : (kind : Kind) (octets : List ℕ) → ((bits octets' : List ℕ) (rest : List Report) → First bits kind octets' rest → octets' ≡ octets) → ⊥
  pub kind : (kind : Kind) → ((bits : List ℕ) (kind' : Kind) (octets : List ℕ) (rest : List Report) → First bits kind' octets rest → kind' ≡ kind) → ⊥
  pub offer : NoPartOfAnOfferIsConstant
  -- wherever there is a choice, it is of this case; wherever an item is chosen, it is this one; and so with PCM options
  pub choice : (n : ℕ) → ((cm jm : List ℕ) → chooses (choice_of cm jm) ≡ true → case_of (choice_of cm jm) ≡ n) → ⊥
  pub item : (i : ℕ) → ((cm jm : List ℕ) (j : ℕ) → choice_of cm jm ≡ item j → j ≡ i) → ⊥
  pub pcm : (n : ℕ) → ((cm jm : List ℕ) (options : ℕ) → choice_of cm jm ≡ pcm options → options ≡ n) → ⊥
  -- "a listener that never changes its record (2)"
  pub changes : NoPartOfTheRecordStands
  -- "one that reads the first message and repeats it from then on (2)": its octets with the kind that was sent, or its kind with the octets
  pub later : (kind : Kind) → ((bits octets octets' : List ℕ) (rest : List Report) → FirstTwo bits kind octets kind octets' rest → octets' ≡ octets) → ⊥
  pub later_kind : ((bits : List ℕ) (kind kind' : Kind) (octets : List ℕ) (rest : List Report) → FirstTwo bits kind octets kind' octets rest → kind' ≡ kind) → ⊥
  -- "a writer that makes up its bit count (2)": the count is that of the bits that stand in the buffer, "20 + 10n" for each copy
  pub counts : (kind : Kind) (octets : List ℕ) (n : ℕ) (out : List ℕ) → CountsWhatItWrote (copies n (sequence kind octets)) (written kind octets n out)
  pub size : (kind : Kind) (octets : List ℕ) (n : ℕ) → length (copies n (sequence kind octets)) ≡ n * (20 + 10 * length octets)
  pub counts_cj : (out : List ℕ) → CountsWhatItWrote cj (written_cj out)
  pub counts_cm : (own : Record) (function : ℕ) (blocks out : List ℕ) → CountsWhatItWrote (cm_of own function blocks) (made_cm own function blocks out)
  pub counts_jm : (own : Record) (heard_cm out : List ℕ) → CountsWhatItWrote (jm_of own heard_cm) (made_jm own heard_cm out)
