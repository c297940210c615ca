-- `fields::coded_block` meets its contract: whether the country code leaves room for the length of the provider code decides, then whether both codes
-- fit.
-- Assumes nothing.
use mathlib.Core.Path.{◌∙◌}
use Rattle.fields.proofs.Reading.{none_country, none_codes, block_there}
use Rattle.fields.proofs.coded_block.Goals as goal

pub returns-then-size-country : goal.returns-then-size-country
returns-then-size-country c =
    let args = c.args in
    c.no_block.ensures ∙ none_country args.octets.now args.place args.size c.requires.size_value c.country_size-country.result c.country_size-country.ensures.0 c.if-size-country.true

pub returns-then-size-codes : goal.returns-then-size-codes
returns-then-size-codes c =
    let args = c.args in
    c.no_block-then-size-codes.ensures ∙ none_codes args.octets.now args.place args.size c.requires.size_value c.country_size-country.result c.country_size-country.ensures.0 c.if-size-codes.true

pub returns : goal.returns
returns c =
    let args = c.args in
    block_there args.octets.now args.place args.size c.requires.size_value c.country_size-country.result c.country_size-country.ensures.0 c.requires.size_in_bounds c.if-size-country.false c.if-size-codes.false
