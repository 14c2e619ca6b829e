-- An order as the definitions have it.
use Rattle.hk_spec_sound.specs.Limits.{IsInRange, SEED}
use Rattle.hk_spec_runs.specs.Words as words
use Rattle.hk_words.specs.Rules.{rules_meant, printing_meant, RulesFit, PrintingFits}
use Rattle.hk_words.specs.declared.order.Order.{Order}
use Rattle.hk_words.specs.declared.order.Order.TheVariants.{Replay, Print, Make}

abbrev pub order_meant : Order → words.Order
order_meant (Replay rules) = words.Replay (rules_meant rules)
order_meant (Print rules) = words.Print (printing_meant rules)
order_meant (Make seed rules) = words.Make seed (rules_meant rules)

abbrev pub OrderFits : Order → Type 0
OrderFits (Replay rules) = RulesFit rules
OrderFits (Print rules) = PrintingFits rules
OrderFits (Make seed rules) = IsInRange SEED seed × RulesFit rules
