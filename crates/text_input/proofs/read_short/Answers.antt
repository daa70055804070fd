-- `text_input::read_short` meets its contract: the tests together are `well_formed`, and where they pass each field is read as defined. Assumes nothing.
use mathlib.Core.Path.{◌≡◌, refl, sym, ◌∙◌}
use mathlib.Core.Bool.{true}
use Rattle.text_input.specs.Line.{well_formed}
use Rattle.text_input.proofs.Lines.{well, fit1, fit2, fit3, fit4, fit5, line, not_formed, formed}
use Rattle.text_input.proofs.read_short.Goals as goal

pub returns-then-not-first-last : goal.returns-then-not-first-last
returns-then-not-first-last c = not_formed c.args.text.now (sym (well c.args.text.now _ _ _ _ c.digits_at-n1.ensures.0 c.digits_at-n2.ensures.0 c.digits_at-n3.ensures.0 c.digits_at-n5.ensures.0 c.decimal_sound-sound1.ensures c.decimal_sound-sound2.ensures c.decimal_sound-sound3.ensures c.hex_sound-sound4.ensures c.decimal_sound-sound5.ensures refl) ∙ c.if-not-first-last.true)

pub decimal_value-requires : goal.decimal_value-requires
decimal_value-requires c =
    let w : well_formed c.args.text.now ≡ true = sym (well c.args.text.now _ _ _ _ c.digits_at-n1.ensures.0 c.digits_at-n2.ensures.0 c.digits_at-n3.ensures.0 c.digits_at-n5.ensures.0 c.decimal_sound-sound1.ensures c.decimal_sound-sound2.ensures c.decimal_sound-sound3.ensures c.hex_sound-sound4.ensures c.decimal_sound-sound5.ensures refl) ∙ c.if-not-first-last.false in
    fit1 c.args.text.now _ _ _ _ c.digits_at-n1.ensures.0 c.digits_at-n2.ensures.0 c.digits_at-n3.ensures.0 c.digits_at-n5.ensures.0 w

pub decimal_value-requires-2 : goal.decimal_value-requires-2
decimal_value-requires-2 c =
    let w : well_formed c.args.text.now ≡ true = sym (well c.args.text.now _ _ _ _ c.digits_at-n1.ensures.0 c.digits_at-n2.ensures.0 c.digits_at-n3.ensures.0 c.digits_at-n5.ensures.0 c.decimal_sound-sound1.ensures c.decimal_sound-sound2.ensures c.decimal_sound-sound3.ensures c.hex_sound-sound4.ensures c.decimal_sound-sound5.ensures refl) ∙ c.if-not-first-last.false in
    fit2 c.args.text.now _ _ _ _ c.digits_at-n1.ensures.0 c.digits_at-n2.ensures.0 c.digits_at-n3.ensures.0 c.digits_at-n5.ensures.0 w

pub decimal_value-requires-3 : goal.decimal_value-requires-3
decimal_value-requires-3 c =
    let w : well_formed c.args.text.now ≡ true = sym (well c.args.text.now _ _ _ _ c.digits_at-n1.ensures.0 c.digits_at-n2.ensures.0 c.digits_at-n3.ensures.0 c.digits_at-n5.ensures.0 c.decimal_sound-sound1.ensures c.decimal_sound-sound2.ensures c.decimal_sound-sound3.ensures c.hex_sound-sound4.ensures c.decimal_sound-sound5.ensures refl) ∙ c.if-not-first-last.false in
    fit3 c.args.text.now _ _ _ _ c.digits_at-n1.ensures.0 c.digits_at-n2.ensures.0 c.digits_at-n3.ensures.0 c.digits_at-n5.ensures.0 w

pub hex_value-requires-clause-text_value : goal.hex_value-requires-clause-text_value
hex_value-requires-clause-text_value c =
    let w : well_formed c.args.text.now ≡ true = sym (well c.args.text.now _ _ _ _ c.digits_at-n1.ensures.0 c.digits_at-n2.ensures.0 c.digits_at-n3.ensures.0 c.digits_at-n5.ensures.0 c.decimal_sound-sound1.ensures c.decimal_sound-sound2.ensures c.decimal_sound-sound3.ensures c.hex_sound-sound4.ensures c.decimal_sound-sound5.ensures refl) ∙ c.if-not-first-last.false in
    (fit4 c.args.text.now _ _ _ _ c.digits_at-n1.ensures.0 c.digits_at-n2.ensures.0 c.digits_at-n3.ensures.0 c.digits_at-n5.ensures.0 w).1

pub hex_value-requires-clause-at_in_bounds : goal.hex_value-requires-clause-at_in_bounds
hex_value-requires-clause-at_in_bounds c =
    let w : well_formed c.args.text.now ≡ true = sym (well c.args.text.now _ _ _ _ c.digits_at-n1.ensures.0 c.digits_at-n2.ensures.0 c.digits_at-n3.ensures.0 c.digits_at-n5.ensures.0 c.decimal_sound-sound1.ensures c.decimal_sound-sound2.ensures c.decimal_sound-sound3.ensures c.hex_sound-sound4.ensures c.decimal_sound-sound5.ensures refl) ∙ c.if-not-first-last.false in
    (fit4 c.args.text.now _ _ _ _ c.digits_at-n1.ensures.0 c.digits_at-n2.ensures.0 c.digits_at-n3.ensures.0 c.digits_at-n5.ensures.0 w).0

pub decimal_value-requires-4 : goal.decimal_value-requires-4
decimal_value-requires-4 c =
    let w : well_formed c.args.text.now ≡ true = sym (well c.args.text.now _ _ _ _ c.digits_at-n1.ensures.0 c.digits_at-n2.ensures.0 c.digits_at-n3.ensures.0 c.digits_at-n5.ensures.0 c.decimal_sound-sound1.ensures c.decimal_sound-sound2.ensures c.decimal_sound-sound3.ensures c.hex_sound-sound4.ensures c.decimal_sound-sound5.ensures refl) ∙ c.if-not-first-last.false in
    fit5 c.args.text.now _ _ _ _ c.digits_at-n1.ensures.0 c.digits_at-n2.ensures.0 c.digits_at-n3.ensures.0 c.digits_at-n5.ensures.0 w

pub returns : goal.returns
returns c =
    let w : well_formed c.args.text.now ≡ true = sym (well c.args.text.now _ _ _ _ c.digits_at-n1.ensures.0 c.digits_at-n2.ensures.0 c.digits_at-n3.ensures.0 c.digits_at-n5.ensures.0 c.decimal_sound-sound1.ensures c.decimal_sound-sound2.ensures c.decimal_sound-sound3.ensures c.hex_sound-sound4.ensures c.decimal_sound-sound5.ensures refl) ∙ c.if-not-first-last.false in
    formed c.args.text.now _ w (line c.args.text.now _ _ _ _ c.digits_at-n1.ensures.0 c.digits_at-n2.ensures.0 c.digits_at-n3.ensures.0 c.digits_at-n5.ensures.0 c.decimal_value.ensures c.decimal_value-2.ensures c.decimal_value-3.ensures c.hex_value.ensures c.decimal_value-4.ensures)
