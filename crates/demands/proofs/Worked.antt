-- The worked values that document 01 marks P, and those of request 03: each line of the tables is computed.
-- Assumes nothing.
use mathlib.Core.Path.{refl}
use Rattle.laws.specs.Logic.{when, both, either}
use Rattle.octets.specs.Lists.{first_fault, until_category}
use Rattle.sequences.specs.Line.{framed, framed_all, sequence, copies}
use Rattle.refusals.specs.Lent.{put}
use Rattle.items.specs.Items.{places, place_of, has_item, set_of, in_set, item_bits, modulation_octet}
use Rattle.menus.specs.Groups.{first_group, front_part, group_of}
use Rattle.menus.specs.Offer.{menu_read}
use Rattle.laws.specs.Tests.{every}
use Rattle.fields.specs.Blocks.{blocks_behind}
use Rattle.fields.specs.Field.{field_of}
use Rattle.records.specs.Record.{modes_at, any_bad, bad_record}
use Rattle.menus.specs.Pcm.{paired}
use Rattle.offers.specs.Making.{modulation_from}
use Rattle.laws.specs.Joined.{joined}
use Rattle.choices.specs.Choosing.{lowest_from, pcm_choice, item_choice, chosen_from}
use Rattle.cadence.specs.Giving.{cadence_fits}
use Rattle.steps.specs.Table.{rows}
use Rattle.steps.specs.Session.{in_range}
use Rattle.steps.specs.Stepping.{elapsed, applies, find_row, timed, stepped_in}
use Rattle.demands.specs.HeardCount.{worked_counts}
use Rattle.demands.specs.Worked.{AllHold, done, ◌and◌, worked}

pub worked_values_hold : AllHold worked
unfolding when both either first_fault until_category framed framed_all sequence copies put places place_of has_item set_of item_bits modulation_octet modes_at any_bad bad_record modulation_from every blocks_behind field_of joined first_group front_part group_of menu_read in_set paired lowest_from pcm_choice item_choice chosen_from rows in_range elapsed applies find_row timed stepped_in cadence_fits
worked_values_hold = refl and refl and refl and refl and refl and refl and refl and refl and refl and refl and refl and refl and refl and refl and refl and refl and refl and refl and refl and refl and done

-- and those of request 03
pub counts_are_worked : AllHold worked_counts
unfolding when both either first_fault until_category put places place_of has_item set_of item_bits modulation_octet modes_at any_bad bad_record modulation_from every joined first_group front_part group_of in_set paired
counts_are_worked = refl and refl and refl and refl and refl and refl and refl and done
