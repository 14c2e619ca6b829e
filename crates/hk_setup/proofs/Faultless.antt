-- A simple command without subcommands takes the words in which its parse meets no fault.
use Rattle.std.proofs.Common.{◌≡◌, ◌+◌, ◌==◌, ◌&&◌, ◌||◌, ℕ, Bool, zero, suc, true, false, not, cond, List, [], ◌∷◌, length, min, Option, Some, None, is_some, refl, sym, ◌∙◌, arith}
use Rattle.std.specs.Prelude.{nat_le, nat_lt, codes, slice_get, encode_utf8, drop}
use Rattle.std.specs.List.{list_all}
use Rattle.std.specs.Option.{option_map_or}
use Rattle.std.specs.Str.{bytes_eq, chars}
use Rattle.std.proofs.lemmas.Bool.Decides.{nat_tests}
use Rattle.clap.specs.Lexer.{long_of, short_of}
use Rattle.clap.specs.Matches.{count_text}
use Rattle.clap.specs.Facts.{parser_of_value, unwrap_or_range}
use Rattle.clap.specs.Values.{refused_kind}
use Rattle.clap.specs.ValueTests.{accepts}
use Rattle.clap.specs.Kinds.{Kinds, or_else, range_kinds, value_kinds}
use Rattle.clap.specs.Walk.{Held, Names, Row, Rule, Step, Text, Walk, Waiting, action_of, arg_by_id, arg_by_index, arg_by_long, arg_by_short, attached_value, count_of, finished, has_row, is_pending, most_values, nothing_held, reacted, settled, subcommand_met, takes_several, takes_values, values_or_missing, walk, walk_from, walked, word_met}
use Rattle.clap.specs.Walk.{value, next, trailing, subcommand}
use Rattle.clap.specs.Simple.{App, Shape, argument_words, built, is_simple}
use Rattle.clap.specs.Takes.{action_passes, bundle_step_passes, bundle_passes, count_passes, default_passes, flag_word_passes, flags_pass, is_valid, level_passes, long_passes, option_passes, other_passes, positional_passes, react_passes, set_passes, settle_passes, short_passes, step_passes, takes, turn_passes, use_passes, value_passes, values_pass, walk_passes, word_passes}
use Rattle.clap.specs.Faults.{action_fault, bundle_step_fault, bundle_fault, count_fault, fault_of, flag_word_fault, flags_fault, level_fault, long_fault, option_fault, other_fault, positional_fault, react_fault, repeat_fault, set_fault, settle_fault, short_fault, stray_fault, step_fault, turn_fault, use_fault, values_fault, walk_fault, word_fault}
use Rattle.clap.specs.declared.builder.action.ArgAction.{ArgAction}
use Rattle.clap.specs.declared.builder.action.ArgAction.TheVariants as action
use Rattle.clap.specs.declared.error.kind.ErrorKind.{ErrorKind}
use Rattle.clap.proofs.TakesLemmas.{leaf_takes}
use Rattle.clap.proofs.FaultLemmas.{leaf_fault}

pub both_empty : (a b : Kinds) → or_else a b ≡ [] → (a ≡ []) × (b ≡ [])
both_empty [] b e = (refl, e)
both_empty (k ∷ ks) b e = cc

pub also : (a b : Bool) → a ≡ true → b ≡ true → (a && b) ≡ true
also true b x y = y
also false b x y = cc

-- ---- one use of an argument

value_is : (k : ErrorKind) (b : Bool) → cond b [] (k ∷ []) ≡ [] → b ≡ true
value_is k true e = refl
value_is k false e = cc

values_are : (a : Rule) (vs : List Text) → values_fault a vs ≡ [] → values_pass a vs ≡ true
values_are a [] e = refl
values_are a (v ∷ vs) e =
    let p = both_empty (value_kinds a.ignore_case (parser_of_value a.parser) v) _ e in
    also (value_passes a v) _ (value_is (refused_kind (parser_of_value a.parser)) (accepts a.ignore_case (parser_of_value a.parser) v) p.0) (values_are a vs p.1)

count_is : (a : Rule) (vs : List Text) (rows : List Row) → count_fault a vs rows ≡ [] → count_passes a vs rows ≡ true
count_is a [] rows e = value_is (refused_kind (parser_of_value a.parser)) (accepts a.ignore_case (parser_of_value a.parser) (count_text (min (count_of a.id rows + 1) 255))) e
count_is a (v ∷ vs) rows e = values_are a (v ∷ vs) e

repeat_is : (k : ErrorKind) (h again : Bool) → cond (h && not again) (k ∷ []) [] ≡ [] → (not h || again) ≡ true
repeat_is k true true e = refl
repeat_is k true false e = cc
repeat_is k false again e = refl

set_is : (again : Bool) (a : Rule) (vs : List Text) (rows : List Row) → set_fault again a vs rows ≡ [] → set_passes again a vs rows ≡ true
set_is again a vs rows e =
    let p = both_empty (repeat_fault again a.id rows) _ e in
    also (not (has_row a.id rows) || again) _ (repeat_is _ (has_row a.id rows) again p.0) (values_are a vs p.1)

action_is : (x : ArgAction) (again : Bool) (a : Rule) (vs : List Text) (rows : List Row) → action_fault x again a vs rows ≡ [] → action_passes x again a vs rows ≡ true
action_is action.Set again a vs rows e = set_is again a vs rows e
action_is action.SetTrue again a vs rows e = set_is again a vs rows e
action_is action.SetFalse again a vs rows e = set_is again a vs rows e
action_is action.Append again a vs rows e = values_are a vs e
action_is action.Count again a vs rows e = count_is a vs rows e
action_is action.Help again a vs rows e = cc
action_is action.HelpShort again a vs rows e = cc
action_is action.HelpLong again a vs rows e = cc
action_is action.Version again a vs rows e = cc

range_by : (k1 k2 k3 k4 : ErrorKind) (least most n : ℕ) (z s t u w : Bool) → (least == most) ≡ s → (least == n) ≡ t → nat_lt n least ≡ u → nat_lt most n ≡ w
    → cond z (k1 ∷ []) (cond s (cond t [] (k2 ∷ [])) (cond u (k3 ∷ []) (cond w (k4 ∷ []) []))) ≡ []
    → (nat_le least n ≡ true) × (nat_le n most ≡ true)
range_by k1 k2 k3 k4 least most n true s t u w es et eu ew e = cc
range_by k1 k2 k3 k4 least most n false true true u w es et eu ew e = (grind (arith, nat_tests), grind (arith, nat_tests))
range_by k1 k2 k3 k4 least most n false true false u w es et eu ew e = cc
range_by k1 k2 k3 k4 least most n false false t true w es et eu ew e = cc
range_by k1 k2 k3 k4 least most n false false t false true es et eu ew e = cc
range_by k1 k2 k3 k4 least most n false false t false false es et eu ew e = (grind (arith, nat_tests), grind (arith, nat_tests))

range_is : (least most n : ℕ) → range_kinds least most n ≡ [] → (nat_le least n ≡ true) × (nat_le n most ≡ true)
range_is least most n e = range_by _ _ _ _ least most n (nat_lt 0 least && (n == 0)) (least == most) (least == n) (nat_lt n least) (nat_lt most n) refl refl refl refl e

use_is : (again : Bool) (a : Rule) (vs : List Text) (rows : List Row) → use_fault again a vs rows ≡ [] → use_passes again a vs rows ≡ true
use_is again a vs rows e =
    let p = both_empty (range_kinds (unwrap_or_range a.range).start_inclusive (most_values a) (length vs)) _ e in
    let r = range_is (unwrap_or_range a.range).start_inclusive (most_values a) (length vs) p.0 in
    also (nat_le (unwrap_or_range a.range).start_inclusive (length vs)) _ r.0
    (also (nat_le (length vs) (most_values a)) _ r.1 (action_is (action_of a) again a (values_or_missing a vs) rows p.1))

-- ---- the walk

used_is : (again : Bool) (vs : List Text) (rows : List Row) (found : Option Rule)
    → option_map_or (λ a. use_fault again a vs rows) found [] ≡ [] → option_map_or (λ a. use_passes again a vs rows) found true ≡ true
used_is again vs rows None e = refl
used_is again vs rows (Some a) e = use_is again a vs rows e

pending_is : (c : List Rule) (again : Bool) (rows : List Row) (pending : Option (Text × List Text))
    → option_map_or (λ (p : Text × List Text). option_map_or (λ a. use_fault again a p.1 rows) (arg_by_id c p.0) []) pending [] ≡ []
    → option_map_or (λ (p : Text × List Text). option_map_or (λ a. use_passes again a p.1 rows) (arg_by_id c p.0) true) pending true ≡ true
pending_is c again rows None e = refl
pending_is c again rows (Some p) e = used_is again p.1 rows (arg_by_id c p.0) e

settle_is : (c : List Rule) (again : Bool) (h : Held) → settle_fault c again h ≡ [] → settle_passes c again h ≡ true
settle_is c again h e = pending_is c again h.rows h.pending e

react_is : (c : List Rule) (again : Bool) (a : Rule) (vs : List Text) (h : Held) → react_fault c again a vs h ≡ [] → react_passes c again a vs h ≡ true
react_is c again a vs h e =
    let p = both_empty (settle_fault c again h) _ e in
    also (settle_passes c again h) _ (settle_is c again h p.0) (use_is again a vs (settled c h).rows p.1)

option_is : (c : List Rule) (again : Bool) (a : Rule) (v : Option Text) (h : Held) → option_fault c again a v h ≡ [] → option_passes c again a v h ≡ true
option_is c again a (Some v) h e = react_is c again a (v ∷ []) h e
option_is c again a None h e = settle_is c again h e

long_by : (c : List Rule) (again : Bool) (a : Rule) (v : Option Text) (h : Held) (k : ErrorKind) (b : Bool)
    → cond b (option_fault c again a v h) (cond (is_some v) (k ∷ []) (react_fault c again a [] h)) ≡ []
    → cond b (option_passes c again a v h) (not (is_some v) && react_passes c again a [] h) ≡ true
long_by c again a v h k true e = option_is c again a v h e
long_by c again a (Some v) h k false e = cc
long_by c again a None h k false e = react_is c again a [] h e

long_is : (c : List Rule) (again : Bool) (found : Option Rule) (v : Option Text) (h : Held) → long_fault c again found v h ≡ [] → long_passes c again found v h ≡ true
long_is c again None v h e = cc
long_is c again (Some a) v h e = long_by c again a v h _ (takes_values a) e

short_by : (c : List Rule) (again : Bool) (a : Rule) (rest : Text) (h : Held) (faults : Kinds) (passes : Bool) → (faults ≡ [] → passes ≡ true) → (b : Bool)
    → cond b (option_fault c again a (attached_value rest) h) (or_else (react_fault c again a [] h) faults) ≡ []
    → cond b (option_passes c again a (attached_value rest) h) (react_passes c again a [] h && passes) ≡ true
short_by c again a rest h faults passes next_is true e = option_is c again a (attached_value rest) h e
short_by c again a rest h faults passes next_is false e =
    let p = both_empty (react_fault c again a [] h) _ e in
    also (react_passes c again a [] h) _ (react_is c again a [] h p.0) (next_is p.1)

short_is : (c : List Rule) (again : Bool) (found : Option Rule) (rest : Text) (h : Held) (faults : Held → Kinds) (passes : Held → Bool)
    → ((g : Held) → faults g ≡ [] → passes g ≡ true) → short_fault c again found rest h faults ≡ [] → short_passes c again found rest h passes ≡ true
short_is c again None rest h faults passes next_is e = cc
short_is c again (Some a) rest h faults passes next_is e =
    short_by c again a rest h (faults (reacted c a [] h)) (passes (reacted c a [] h)) (next_is (reacted c a [] h)) (takes_values a) e

bundle_step_is : (c : List Rule) (again : Bool) (x : Option ℕ) (flags : Text) (skip : ℕ) (h : Held) (faults : Text → ℕ → Held → Kinds) (passes : Text → ℕ → Held → Bool)
    → ((t : Text) (n : ℕ) (g : Held) → faults t n g ≡ [] → passes t n g ≡ true)
    → bundle_step_fault c again x flags skip h faults ≡ [] → bundle_step_passes c again x flags skip h passes ≡ true
bundle_step_is c again None flags skip h faults passes next_is e = refl
bundle_step_is c again (Some x) flags zero h faults passes next_is e =
    let rest = drop (length (encode_utf8 x)) flags in
    short_is c again (arg_by_short c x) rest h (faults rest 0) (passes rest 0) (next_is rest 0) e
bundle_step_is c again (Some x) flags (suc skip) h faults passes next_is e = next_is (drop (length (encode_utf8 x)) flags) skip h e

flags_are : (c : List Rule) (again : Bool) (k : ℕ) (flags : Text) (skip : ℕ) (h : Held) → flags_fault c again k flags skip h ≡ [] → flags_pass c again k flags skip h ≡ true
unfolding flags_fault flags_pass
flags_are c again zero flags skip h e = refl
flags_are c again (suc k) flags skip h e =
    bundle_step_is c again (slice_get (chars flags) 0) flags skip h (flags_fault c again k) (flags_pass c again k) (λ t n g f. flags_are c again k t n g f) e

bundle_is : (c : List Rule) (again : Bool) (h : Held) (flags : Option Text)
    → option_map_or (λ flags. bundle_fault c again flags h) flags [] ≡ [] → option_map_or (λ flags. bundle_passes c again flags h) flags true ≡ true
bundle_is c again h None e = refl
bundle_is c again h (Some flags) e = flags_are c again (length flags) flags h.skip (record h { skip = 0 }) e

flag_word_is : (c : List Rule) (again : Bool) (long : Option (Text × Option Text)) (word : Text) (h : Held) → flag_word_fault c again long word h ≡ []
    → flag_word_passes c again long word h ≡ true
flag_word_is c again (Some p) word h e = long_is c again (arg_by_long c p.0) p.1 h e
flag_word_is c again None word h e = bundle_is c again h (short_of word) e

help_is : (ks : Kinds) (k : ErrorKind) (b off : Bool) → cond (b && not off) (k ∷ ks) [] ≡ [] → (not b || off) ≡ true
help_is ks k true true e = refl
help_is ks k true false e = cc
help_is ks k false off e = refl

unless_is : (b passes : Bool) (faults : Kinds) → (faults ≡ [] → passes ≡ true) → cond b [] faults ≡ [] → (b || passes) ≡ true
unless_is true passes faults is e = refl
unless_is false passes faults is e = is e

other_is : (s : Shape) (met : Option Text) (word : Text) (h : Held) → other_fault s met word h ≡ [] → other_passes s met word h ≡ true
other_is s (Some name) word h e = help_is _ _ (bytes_eq name (codes "help")) s.disable_help_subcommand e
other_is s None word h e =
    unless_is (bytes_eq word (45 ∷ 45 ∷ [])) _ _ (flag_word_is s.rules s.args_override_self (long_of word) word h) e

word_is : (s : Shape) (names : Names) (is_trailing : Bool) (waiting : Waiting) (word : Text) (h : Held) → word_fault s names is_trailing waiting word h ≡ []
    → word_passes s names is_trailing waiting word h ≡ true
word_is s names is_trailing waiting word h e = unless_is is_trailing _ _ (other_is s (subcommand_met names waiting word) word h) e

positional_is : (c : List Rule) (again : Bool) (a : Rule) (h : Held) → positional_fault c again a h ≡ [] → positional_passes c again a h ≡ true
positional_is c again a h e = unless_is (is_pending a h.pending && takes_several a) _ _ (settle_is c again h) e

stray_is : (P : Type 0) (k : ErrorKind) (ks : Kinds) (leaf : Bool) → cond leaf (k ∷ []) (k ∷ ks) ≡ [] → P
stray_is P k ks true e = cc
stray_is P k ks false e = cc

at_position : (s : Shape) (h : Held) (found : Option Rule)
    → option_map_or (λ a. positional_fault s.rules s.args_override_self a h) found (stray_fault s) ≡ []
    → option_map_or (λ a. positional_passes s.rules s.args_override_self a h) found false ≡ true
at_position s h None e = stray_is _ _ _ s.is_leaf e
at_position s h (Some a) e = positional_is s.rules s.args_override_self a h e

step_is : (s : Shape) (position : ℕ) (h : Held) (x : Step) → step_fault s position h x ≡ [] → step_passes s position h x ≡ true
step_is s position h value e = at_position s h (arg_by_index s.rules position) e
step_is s position h (next w) e = refl
step_is s position h (trailing p) e = refl
step_is s position h (subcommand n) e = refl

turn_is : (s : Shape) (names : Names) (w : Walk) (word : Text) → turn_fault s names w word ≡ [] → turn_passes s names w word ≡ true
turn_is s names w word e =
    let met = word_met s.rules names w.is_trailing w.waiting w.position word w.held in
    unless_is (is_some w.stopped) (word_passes s names w.is_trailing w.waiting word w.held && step_passes s w.position met.0 met.1) _
    (λ f.
    let p = both_empty (word_fault s names w.is_trailing w.waiting word w.held) _ f in
    also (word_passes s names w.is_trailing w.waiting word w.held) _ (word_is s names w.is_trailing w.waiting word w.held p.0) (step_is s w.position met.0 met.1 p.1)) e

walk_is : (s : Shape) (names : Names) (w : Walk) (words : List Text) → walk_fault s names w words ≡ [] → walk_passes s names w words ≡ true
unfolding walk_fault walk_passes
walk_is s names w [] e = refl
walk_is s names w (word ∷ rest) e =
    let p = both_empty (turn_fault s names w word) _ e in
    also (turn_passes s names w word) _ (turn_is s names w word p.0) (walk_is s names (walked s.rules names w word) rest p.1)

-- ---- the whole

level_is : (s : Shape) (names : Names) (h : Held) (words : List Text) → list_all default_passes s.rules ≡ true → ((rows : List Row) → is_valid s rows false ≡ true)
    → level_fault s names h words false [] ≡ [] → level_passes s names h words false ≡ true
level_is s names h words defaults valid e =
    let end = (walk s.rules names h words).held in
    let p = both_empty (walk_fault s names (walk_from h) words) _ e in
    let q = both_empty (settle_fault s.rules s.args_override_self end) _ p.1 in
    also (walk_passes s names (walk_from h) words) _ (walk_is s names (walk_from h) words p.0)
    (also (settle_passes s.rules s.args_override_self end) _ (settle_is s.rules s.args_override_self end q.0)
    (also (list_all default_passes s.rules) _ defaults (valid (finished s.rules end))))

-- a command with no subcommand, no wrong default and nothing that is required
pub record IsEasy (a : App) : Type 0 where
  pub simple : is_simple a ≡ true
  pub leaf : (built a).subs ≡ []
  pub defaults : list_all default_passes (built a).top.rules ≡ true
  pub valid : (rows : List Row) → is_valid (built a).top rows false ≡ true

pub takes_where_faultless : (a : App) (words : List Text) → IsEasy a → fault_of a words ≡ [] → takes a words ≡ true
takes_where_faultless a words easy e =
    also (is_simple a) _ easy.simple
    (leaf_takes (built a) nothing_held (argument_words a words) easy.leaf
    (level_is (built a).top [] nothing_held (argument_words a words) easy.defaults easy.valid
    (sym (leaf_fault (built a) nothing_held (argument_words a words) easy.leaf) ∙ e)))
