use Rattle.std.proofs.Common.{◌≡◌, ◌∙◌, arith, rules, true}
use Rattle.std.specs.Char.{is_ascii_digit}
use Rattle.std.specs.List.{list_all}
use Rattle.hk_words.proofs.Digits.{read_is}
use Rattle.hk_words.proofs.number.read_number.Goals as goal

pub returns-then-are_digits : goal.returns-then-are_digits
returns-then-are_digits c =
    let digits : list_all is_ascii_digit c.args.word.now ≡ true = search rules in
    c.ok.ensures.value ∙ read_is c.args.word.now c.parse.result c.parse.ensures.value.0 (omega arith) digits
