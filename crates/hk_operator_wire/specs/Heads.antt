-- What one byte does where no fault was met, by the few values that are kept.
use Rattle.std.specs.Prelude.{◌≡◌, ℕ, ◌-◌, ◌==◌, Bool, not, ◌&&◌, ◌||◌, if◌then◌else◌, List, [], ◌∷◌, ◌++◌, length, drop, slice_index, codes, Option, is_some, Result, Ok, Err}
use Rattle.hk_base.specs.declared.plain.WireFault.{WireFault}
use Rattle.hk_base.specs.declared.plain.WireFault.TheVariants.{BadHello, BadKind, BadLength, BadFormat}
use Rattle.hk_operator_wire.specs.declared.head.CommandHead.{CommandHead}
use Rattle.hk_operator_wire.specs.declared.recent.LastFour.{LastFour}
use Rattle.hk_operator_wire.specs.declared.item.OpItem.{OpItem}
use Rattle.hk_operator_wire.specs.declared.item.OpItem.TheVariants as items
use Rattle.hk_spec_sound.specs.Limits.{CHANNELS, FACTORS}
use Rattle.hk_spec_streams.specs.Pieces.{first_that_holds, is_one_of}
use Rattle.hk_spec_streams.specs.Commands.{Row, row_of, command_length_fits, content_of, is_form}

abbrev pub four_of : LastFour → List ℕ
four_of recent = recent.bytes

-- these are the last four bytes of some that end with the given ones
pub record HasLastFour (recent : LastFour) (bytes : List ℕ) : Type 0 where
  pub before : List ℕ
  pub four : length before ≡ 4
  pub is : four_of recent ≡ drop (length bytes) (before ++ bytes)

-- the byte that a hello has at this place
abbrev pub hello_allows : ℕ → ℕ → Bool
hello_allows place byte = is_one_of (slice_index (codes "HKO1") place ∷ []) byte

abbrev pub hello_outcome : ℕ → ℕ → Result OpItem WireFault
hello_outcome place byte = if hello_allows place byte then Ok items.Nothing else Err (BadHello place)

-- a form's byte that isn't allowed there
abbrev pub has_bad_byte : CommandHead → Bool
has_bad_byte head = ((head.count == 10) && not (is_one_of CHANNELS head.channels)) || ((head.count == 11) && not (is_one_of FACTORS head.factor))

abbrev pub has_bad_form : Row → CommandHead → Bool
has_bad_form row head = is_form row.content && has_bad_byte head

-- what is wrong with a command whose last byte that came stands at this place
abbrev pub head_fault : ℕ → CommandHead → Option WireFault
head_fault place head = first_that_holds (
    ((head.count == 1) && not (is_some (row_of head.kind)), BadKind place)
    ∷ ((head.count == 5) && not (command_length_fits head.kind head.length), BadLength (place - 3))
    ∷ (is_form (content_of head.kind) && has_bad_byte head, BadFormat place) ∷ [])
