-- What a simple command of options alone has taken as the values of an option passed that option's test.
use Rattle.std.proofs.Common.{◌≡◌, ◌&&◌, ◌||◌, ◌++◌, ℕ, Bool, zero, suc, true, false, not, List, [], ◌∷◌, length, Option, Some, None, is_some, refl, sym, ap, subst}
use Rattle.std.specs.Prelude.{nat_le, slice_get, encode_utf8, drop, find, fold, map, if◌then◌else◌, option_and_then}
use Rattle.std.specs.List.{list_all}
use Rattle.std.specs.Option.{option_map_or}
use Rattle.std.specs.Str.{bytes_eq, chars}
use Rattle.std.proofs.lemmas.Slice.Eq.{bytes_eq-Decides}
use Rattle.clap.specs.Lexer.{long_of, short_of}
use Rattle.clap.specs.Facts.{unwrap_or_range}
use Rattle.clap.specs.Walk.{Held, Names, Outcome, Row, Rule, Step, Text, Walk, Waiting, action_of, after_flag, after_step, arg_by_id, arg_by_index, arg_by_long, arg_by_short, attached_value, bundle_met, bundle_step, first_of, default_rows, has_row, is_pending, most_values, long_met, long_or_other, more_values, nothing_held, option_met, option_word, plain_word, reacted, reading_by, rows_after, settled, settled_rows, short_met, short_or_plain, subcommand_met, subcommand_or_other, takes_several, takes_values, to_positional, used, used_as, used_by_id, values_or_missing, walk, walk_from, walked, walked_from, with_default, with_values, without, word_met}
use Rattle.clap.specs.Walk.{value, next, trailing, subcommand, idle, option, positional, done, waits, plain, refused}
use Rattle.clap.specs.Simple.{App, Shape, argument_words, built, entered, is_simple, label_of, matches_of, names_of}
use Rattle.clap.specs.Takes.{action_passes, built_takes, bundle_step_passes, entered_passes, bundle_passes, flag_word_passes, flags_pass, level_passes, long_passes, option_passes, other_passes, positional_passes, react_passes, settle_passes, short_passes, step_passes, takes, turn_passes, use_passes, value_passes, values_pass, walk_passes, word_passes}
use Rattle.clap.specs.declared.builder.action.ArgAction.{ArgAction}
use Rattle.clap.specs.declared.builder.action.ArgAction.TheVariants.{Set}
use Rattle.clap.specs.declared.builder.value_parser.Reading.{Reading}
use Rattle.clap.specs.declared.parser.matches.ValueSource.{ValueSource}
use Rattle.clap.specs.declared.parser.matches.ValueSource.TheVariants.{CommandLine}
use Rattle.hk_setup.proofs.Faultless.{IsEasy}

pub both : (a b : Bool) → (a && b) ≡ true → (a ≡ true) × (b ≡ true)
both true b e = (refl, e)
both false b e = cc

all_append : (p : Text → Bool) (xs ys : List Text) → list_all p xs ≡ true → list_all p ys ≡ true → list_all p (xs ++ ys) ≡ true
all_append p [] ys x y = y
all_append p (t ∷ xs) ys x y =
    let h = both (p t) _ x in
    rw h.0 (all_append p xs ys h.1 y)

-- a command without subcommands that takes its words takes them at its own level
leaf_level : (b : App) (h : Held) (words : List Text) → b.subs ≡ [] → built_takes b h words ≡ true → level_passes b.top [] h words false ≡ true
leaf_level b h words none e = go (walk b.top.rules [] h words).stopped (subst (λ (subs : List Shape). built_takes (record b { subs = subs }) h words ≡ true) none e)
  where
    go : (stop : Option (Text × List Text))
        → (entered_passes (record b { subs = [] }) stop && level_passes b.top [] h words (is_some (entered (record b { subs = [] }) stop))) ≡ true
        → level_passes b.top [] h words false ≡ true
    go None f = f
    go (Some p) f = f

module _ (id : Text) (p : Text → Bool) where
  -- the values of the rows of this id pass this test
  abbrev pub Passing : List Row → Type 0
  Passing [] = Unit {0}
  Passing (r ∷ rs) = (bytes_eq r.id id ≡ true → list_all p r.values ≡ true) × Passing rs

  -- An option with one value, which passes this test where the option has this id.
  pub record IsTested (a : Rule) : Type 0 where
    pub set : action_of a ≡ Set
    pub missing : a.missing ≡ []
    pub takes : takes_values a ≡ true
    pub defaults : a.defaults ≡ []
    pub tested : bytes_eq a.id id ≡ true → (v : Text) → value_passes a v ≡ true → p v ≡ true

  abbrev pub AreTested : List Rule → Type 0
  AreTested [] = Unit {0}
  AreTested (a ∷ as_) = IsTested a × AreTested as_

  abbrev pub IfTested : Option Rule → Type 0
  IfTested None = Unit {0}
  IfTested (Some a) = IsTested a

  found : (q : Rule → Bool) (c : List Rule) → AreTested c → IfTested (find q c)
  found q [] h = tt
  found q (a ∷ c) h = go (q a) (found q c h.1)
    where
      go : (b : Bool) → IfTested (find q c) → IfTested (if b then Some a else find q c)
      go true later = h.0
      go false later = later

  -- ---- the rows

  removed : (other : Text) (rows : List Row) → Passing rows → Passing (without other rows)
  removed other [] h = tt
  removed other (r ∷ rs) h = go (bytes_eq r.id other) (removed other rs h.1)
    where
      go : (b : Bool) → Passing (without other rs) → Passing (if b then [] ++ rs else r ∷ without other rs)
      go true later = h.1
      go false later = (h.0, later)

  added : (other : Text) (how : Reading) (s : ValueSource) (vs : List Text) → (bytes_eq other id ≡ true → list_all p vs ≡ true)
      → (rows : List Row) → Passing rows → Passing (with_values other how s vs rows)
  added other how s vs new [] h = (new, tt)
  added other how s vs new (r ∷ rs) h = go (bytes_eq r.id other) refl (added other how s vs new rs h.1)
    where
      go : (b : Bool) → bytes_eq r.id other ≡ b → Passing (with_values other how s vs rs) → Passing (if b then more_values s vs r ++ rs else r ∷ with_values other how s vs rs)
      go true e later =
          (λ same. all_append p r.values vs (h.0 same) (new (subst (λ (t : Text). bytes_eq t id ≡ true) ((bytes_eq-Decides r.id other).0 e) same)), h.1)
      go false e later = (h.0, later)

  values_tested : (a : Rule) → IsTested a → (vs : List Text) → values_pass a vs ≡ true → bytes_eq a.id id ≡ true → list_all p vs ≡ true
  values_tested a t [] e same = refl
  values_tested a t (v ∷ vs) e same =
      let h = both (value_passes a v) _ e in
      rw (t.tested same v h.0) (values_tested a t vs h.1 same)

  used_set : (a : Rule) → IsTested a → (vs : List Text) (rows : List Row) (x : ArgAction) → x ≡ Set → values_pass a vs ≡ true → Passing rows
      → Passing (used_as x a.id (reading_by a) vs rows)
  used_set a t vs rows x is e h =
      subst (λ (y : ArgAction). Passing (used_as y a.id (reading_by a) vs rows)) (sym is)
      (added a.id (reading_by a) CommandLine vs (values_tested a t vs e) (without a.id rows) (removed a.id rows h))

  values_given : (a : Rule) → IsTested a → (again : Bool) (vs : List Text) (rows : List Row) → use_passes again a vs rows ≡ true → values_pass a (values_or_missing a vs) ≡ true
  values_given a t again vs rows e =
      let least = nat_le (unwrap_or_range a.range).start_inclusive (length vs) in
      let most = nat_le (length vs) (most_values a) in
      let h = both most _ (both least _ e).1 in
      let set : action_passes Set again a (values_or_missing a vs) rows ≡ true =
      subst (λ (y : ArgAction). action_passes y again a (values_or_missing a vs) rows ≡ true) t.set h.1 in
      (both (not (has_row a.id rows) || again) _ set).1

  use_keeps : (a : Rule) → IsTested a → (again : Bool) (vs : List Text) (rows : List Row) → use_passes again a vs rows ≡ true → Passing rows → Passing (used a vs rows)
  use_keeps a t again vs rows e h = used_set a t (values_or_missing a vs) rows (action_of a) t.set (values_given a t again vs rows e) h

  -- ---- the walk

  module _ (c : List Rule) (tested : AreTested c) (again : Bool) where
    by_id : (vs : List Text) (rows : List Row) (a : Option Rule) → IfTested a → option_map_or (λ a. use_passes again a vs rows) a true ≡ true → Passing rows
        → Passing (used_by_id a vs rows)
    by_id vs rows None t e h = h
    by_id vs rows (Some a) t e h = use_keeps a t again vs rows e h

    pending_keeps : (rows : List Row) (pending : Option (Text × List Text))
        → option_map_or (λ (p : Text × List Text). option_map_or (λ a. use_passes again a p.1 rows) (arg_by_id c p.0) true) pending true ≡ true
        → Passing rows → Passing (settled_rows c pending rows)
    pending_keeps rows None e h = h
    pending_keeps rows (Some w) e h = by_id w.1 rows (arg_by_id c w.0) (found (λ a. bytes_eq a.id w.0) c tested) e h

    settle_keeps : (h : Held) → settle_passes c again h ≡ true → Passing h.rows → Passing (settled c h).rows
    settle_keeps h e q = pending_keeps h.rows h.pending e q

    react_keeps : (a : Rule) → IsTested a → (vs : List Text) (h : Held) → react_passes c again a vs h ≡ true → Passing h.rows → Passing (reacted c a vs h).rows
    react_keeps a t vs h e q =
        let w = both (settle_passes c again h) _ e in
        use_keeps a t again vs (settled c h).rows w.1 (settle_keeps h w.0 q)

    option_keeps : (a : Rule) → IsTested a → (v : Option Text) (h : Held) → option_passes c again a v h ≡ true → Passing h.rows → Passing (option_met c a v h).0.rows
    option_keeps a t (Some v) h e q = react_keeps a t (v ∷ []) h e q
    option_keeps a t None h e q = settle_keeps h e q

    long_keeps : (a : Option Rule) → IfTested a → (v : Option Text) (h : Held) → long_passes c again a v h ≡ true → Passing h.rows → Passing (long_met c a v h).0.rows
    long_keeps None t v h e q = q
    long_keeps (Some a) t v h e q = rw t.takes (option_keeps a t v h (rw t.takes at e) q)

    short_keeps : (a : Option Rule) → IfTested a → (rest : Text) (h : Held) (more : Held → Held × Outcome) (passes : Held → Bool)
        → short_passes c again a rest h passes ≡ true → Passing h.rows → Passing (short_met c a rest h more).0.rows
    short_keeps None t rest h more passes e q = q
    short_keeps (Some a) t rest h more passes e q = rw t.takes (option_keeps a t (attached_value rest) h (rw t.takes at e) q)

    bundle_step_keeps : (x : Option ℕ) (flags : Text) (skip : ℕ) (so_far : Outcome) (h : Held) (more : Text → ℕ → Outcome → Held → Held × Outcome) (passes : Text → ℕ → Held → Bool)
        → ((t : Text) (n : ℕ) (o : Outcome) (g : Held) → passes t n g ≡ true → Passing g.rows → Passing (more t n o g).0.rows)
        → bundle_step_passes c again x flags skip h passes ≡ true → Passing h.rows → Passing (bundle_step c x flags skip so_far h more).0.rows
    bundle_step_keeps None flags skip so_far h more passes keeps e q = q
    bundle_step_keeps (Some x) flags zero so_far h more passes keeps e q =
        let rest = drop (length (encode_utf8 x)) flags in
        short_keeps (arg_by_short c x) (found _ c tested) rest h (more rest 0 done) (passes rest 0) e q
    bundle_step_keeps (Some x) flags (suc skip) so_far h more passes keeps e q = keeps (drop (length (encode_utf8 x)) flags) skip so_far h e q

    flags_keep : (k : ℕ) (flags : Text) (skip : ℕ) (so_far : Outcome) (h : Held) → flags_pass c again k flags skip h ≡ true → Passing h.rows
        → Passing (bundle_met c k flags skip so_far h).0.rows
    unfolding flags_pass bundle_met
    flags_keep zero flags skip so_far h e q = q
    flags_keep (suc k) flags skip so_far h e q =
        bundle_step_keeps (slice_get (chars flags) 0) flags skip so_far h (bundle_met c k) (flags_pass c again k) (λ t n o g f r. flags_keep k t n o g f r) e q

    option_word_rows : (a : Option Rule) (name word : Text) (h : Held) → (option_word a name word h).0.rows ≡ h.rows
    option_word_rows None name word h = refl
    option_word_rows (Some a) name word h = refl

    plain_keeps : (w : Waiting) (word : Text) (h : Held) → Passing h.rows → Passing (plain_word c w word h).0.rows
    plain_keeps (option name) word h q = subst Passing (sym (option_word_rows (arg_by_id c name) name word h)) q
    plain_keeps idle word h q = q
    plain_keeps positional word h q = q

    flag_keeps : (w : Waiting) (word : Text) (h : Held) (o : Outcome) → Passing h.rows → Passing (after_flag c w word h o).0.rows
    flag_keeps w word h done q = q
    flag_keeps w word h (waits name) q = q
    flag_keeps w word h plain q = plain_keeps w word h q
    flag_keeps w word h refused q = plain_keeps w word h q

    short_word_keeps : (w : Waiting) (word : Text) (flags : Option Text) (h : Held) → option_map_or (λ flags. bundle_passes c again flags h) flags true ≡ true → Passing h.rows
        → Passing (short_or_plain c w word flags h).0.rows
    short_word_keeps w word None h e q = plain_keeps w word h q
    short_word_keeps w word (Some flags) h e q =
        flag_keeps w word _ _ (flags_keep (length flags) flags h.skip plain (record h { skip = 0 }) e q)

    long_word_keeps : (w : Waiting) (word : Text) (long : Option (Text × Option Text)) (h : Held) → flag_word_passes c again long word h ≡ true → Passing h.rows
        → Passing (long_or_other c w word long h).0.rows
    long_word_keeps w word (Some l) h e q = flag_keeps w word _ _ (long_keeps (arg_by_long c l.0) (found _ c tested) l.1 h e q)
    long_word_keeps w word None h e q = short_word_keeps w word (short_of word) h e q

    dashes_keep : (w : Waiting) (position : ℕ) (word : Text) (h : Held) (b : Bool) → (b || flag_word_passes c again (long_of word) word h) ≡ true → Passing h.rows
        → Passing (if b then (h, trailing position) else long_or_other c w word (long_of word) h).0.rows
    dashes_keep w position word h true e q = q
    dashes_keep w position word h false e q = long_word_keeps w word (long_of word) h e q

    index_keeps : (w : Walk) (word : Text) (h : Held) (a : Option Rule) → option_map_or (λ a. positional_passes c again a h) a false ≡ true → Passing h.rows
        → Passing (to_positional c a word w h).held.rows
    index_keeps w word h None e q = q
    index_keeps w word h (Some a) e q = go (is_pending a h.pending && takes_several a) e
      where
        go : (b : Bool) → (b || settle_passes c again h) ≡ true → Passing (if b then h else settled c h).rows
        go true f = q
        go false f = settle_keeps h f q

  module _ (s : Shape) (tested : AreTested s.rules) (names : Names) where
    met_keeps : (m : Option Text) (w : Waiting) (position : ℕ) (word : Text) (h : Held) → other_passes s m word h ≡ true → Passing h.rows
        → Passing (subcommand_or_other s.rules m w position word h).0.rows
    met_keeps (Some name) w position word h e q = q
    met_keeps None w position word h e q = dashes_keep s.rules tested s.args_override_self w position word h (bytes_eq word (45 ∷ 45 ∷ [])) e q

    word_keeps : (is_trailing : Bool) (w : Waiting) (position : ℕ) (word : Text) (h : Held) → word_passes s names is_trailing w word h ≡ true → Passing h.rows
        → Passing (word_met s.rules names is_trailing w position word h).0.rows
    word_keeps true w position word h e q = q
    word_keeps false w position word h e q = met_keeps (subcommand_met names w word) w position word h e q

    step_keeps : (w : Walk) (word : Text) (h : Held) (x : Step) → step_passes s w.position h x ≡ true → Passing h.rows → Passing (after_step s.rules word w h x).held.rows
    step_keeps w word h (next a) e q = q
    step_keeps w word h (trailing a) e q = q
    step_keeps w word h (subcommand a) e q = q
    step_keeps w word h value e q = index_keeps s.rules tested s.args_override_self w word h (arg_by_index s.rules w.position) e q

    turn_keeps : (w : Walk) (word : Text) → turn_passes s names w word ≡ true → Passing w.held.rows → Passing (walked s.rules names w word).held.rows
    unfolding walked
    turn_keeps w word e q = go w.stopped e
      where
        met : Held × Step
        met = word_met s.rules names w.is_trailing w.waiting w.position word w.held

        go : (o : Option (Text × List Text)) → (is_some o || (word_passes s names w.is_trailing w.waiting word w.held && step_passes s w.position met.0 met.1)) ≡ true
            → Passing (walked_from s.rules names o w word).held.rows
        go (Some stop) f = q
        go None f =
            let h = both (word_passes s names w.is_trailing w.waiting word w.held) _ f in
            step_keeps w word met.0 met.1 h.1 (word_keeps w.is_trailing w.waiting w.position word w.held h.0 q)

    walk_keeps : (w : Walk) (words : List Text) → walk_passes s names w words ≡ true → Passing w.held.rows → Passing (fold (walked s.rules names) w words).held.rows
    unfolding walk_passes
    walk_keeps w [] e q = q
    walk_keeps w (word ∷ rest) e q =
        let h = both (turn_passes s names w word) _ e in
        walk_keeps (walked s.rules names w word) rest h.1 (turn_keeps w word h.0 q)

  defaults_keep : (rows : List Row) (c : List Rule) → AreTested c → Passing rows → Passing (fold with_default rows c)
  defaults_keep rows [] t q = q
  defaults_keep rows (a ∷ c) t q = defaults_keep (with_default rows a) c t.1 (go (has_row a.id rows))
    where
      go : (b : Bool) → Passing (if b then rows else default_rows a.id (reading_by a) a.defaults rows)
      go true = q
      go false = rw t.0.defaults q

  first_passes : (rows : List Row) → Passing rows → (text : Text) → option_and_then (λ (row : Row). slice_get row.values 0) (find (λ row. bytes_eq row.id id) rows) ≡ Some text
      → p text ≡ true
  first_passes [] q text e = cc
  first_passes (r ∷ rs) q text e = go (bytes_eq r.id id) refl (λ f. first_passes rs q.1 text f) e
    where
      at : (vs : List Text) → list_all p vs ≡ true → slice_get vs 0 ≡ Some text → p text ≡ true
      at [] a f = cc
      at (v ∷ vs) a f =
          let same : v ≡ text = ap (λ (o : Option Text). option_map_or (λ x. x) o v) f in
          subst (λ (x : Text). p x ≡ true) same (both (p v) _ a).0

      go : (b : Bool) → bytes_eq r.id id ≡ b → (option_and_then (λ (row : Row). slice_get row.values 0) (find (λ row. bytes_eq row.id id) rs) ≡ Some text → p text ≡ true)
          → option_and_then (λ (row : Row). slice_get row.values 0) (if b then Some r else find (λ row. bytes_eq row.id id) rs) ≡ Some text
          → p text ≡ true
      go true is later f = at r.values (q.0 is) f
      go false is later f = later f

  at_level : (b : App) (words : List Text) → b.subs ≡ [] → AreTested b.top.rules → built_takes b nothing_held words ≡ true → Passing (rows_after b.top.rules (names_of b) words)
  at_level b words none tested e =
      let end = (walk b.top.rules [] nothing_held words).held in
      let h = both (walk_passes b.top [] (walk_from nothing_held) words) _ (leaf_level b nothing_held words none e) in
      let g = both (settle_passes b.top.rules b.top.args_override_self end) _ h.1 in
      let at_end : Passing end.rows = walk_keeps b.top tested [] (walk_from nothing_held) words h.0 tt in
      let settled_too : Passing (settled b.top.rules end).rows = settle_keeps b.top.rules tested b.top.args_override_self end g.0 at_end in
      let all : Passing (rows_after b.top.rules [] words) = defaults_keep (settled b.top.rules end).rows b.top.rules tested settled_too in
      subst (λ (ns : Names). Passing (rows_after b.top.rules ns words)) (sym (ap (λ (subs : List Shape). map label_of subs) none)) all

  -- The first value of this id among the matches passes the test.
  pub first_tested : (a : App) (words : List Text) → IsEasy a → AreTested (built a).top.rules → takes a words ≡ true
      → (text : Text) → first_of id (matches_of a words) ≡ Some text → p text ≡ true
  first_tested a words easy tested e text first =
      first_passes (matches_of a words) (at_level (built a) (argument_words a words) easy.leaf tested (both (is_simple a) _ e).1) text first
