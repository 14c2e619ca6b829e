-- The songs that the lines of a station list the matches of.
use Rattle.std.proofs.Common.{◌≡◌, ◌≤◌, ℕ, zero, suc, ◌+◌, Bool, true, false, cond, Option, Some, List, [], ◌∷◌, ◌++◌, length, slice_get, refl, sym, ◌∙◌, ap, subst, arith, inl, inr}
use Rattle.std.specs.Prelude.{unwrap_or}
use Rattle.std.proofs.lemmas.Bool.Decides.{leb_tells}
use mathlib.Core.List.{IsPrefix}
use Rattle.hk_spec_streams.specs.Blocks.{Moment, Full, Asks}
use Rattle.hk_spec_matching.specs.Catalogue.{Songs, Limits, Journal, Rise, version}
use Rattle.hk_spec_matching.specs.Matching.{matches}
use Rattle.hk_spec_matching.proofs.Rising.{Rise-le}
use Rattle.hk_spec_lines.specs.Lines.{printed_text}
use Rattle.hk_spec_settings.specs.Settings.{Rules}
use Rattle.hk_spec_runs.specs.History.{Reported}
use Rattle.hk_spec_runs.specs.Listening.{songs_in}
use Rattle.hk_spec_monitor.specs.Looks.{versions_of_blocks, last_version}
use Rattle.hk_spec_monitor.specs.Run.{Heard, HasLines, IsTorn, is_torn, songs_seen, moments_heard, versions_of, reported_line}
use Rattle.hk_spec_monitor.proofs.Legal.{some_of}
use Rattle.hk_spec_monitor.proofs.Logs.{past_end}
use Rattle.hk_journal.proofs.Prefixes.{prefix_length}
use Rattle.hk_publish.specs.Journals.{past_of_journal}
use Rattle.hk_publish.proofs.Journals.{past_is, past_stays}

-- a version is the same in a longer journal
pub version_longer : (limits : Limits) (xs ys : Journal) → IsPrefix xs ys → (v : ℕ) → v ≤ length xs → version limits xs v ≡ version limits ys v
version_longer limits xs ys begins v low =
    let longer : v ≤ length ys = omega (arith, low, prefix_length xs ys begins) in
    some_of (version limits xs v) (version limits ys v)
    (sym (past_stays limits xs ys begins v (version limits xs v) (past_is limits xs v low)) ∙ past_is limits ys v longer)

-- What was known before the closing look is known after it; up to the journal's last version these are the journal's songs.
pub same_songs : (rules : Rules) (journal before after : Journal) → IsPrefix journal after → IsPrefix before after → (v : ℕ) → v ≤ length before
    → songs_in (past_of_journal rules.limits before) v ≡ songs_seen rules journal (past_of_journal rules.limits after) v
same_songs rules journal before after told grows v low =
    let longer : v ≤ length after = omega (arith, low, prefix_length before after grows) in
    let known : songs_in (past_of_journal rules.limits before) v ≡ version rules.limits after v =
    ap (λ (o : Option Songs). unwrap_or o []) (past_is rules.limits before v low) ∙ version_longer rules.limits before after grows v low in
    let seen : unwrap_or (past_of_journal rules.limits after v) [] ≡ version rules.limits after v =
    ap (λ (o : Option Songs). unwrap_or o []) (past_is rules.limits after v longer) in
    elim (leb_tells v (length journal)) [
      | inl is ↦ known ∙ sym (version_longer rules.limits journal after told v is.1)
          ∙ sym (ap (λ (b : Bool). cond b (version rules.limits journal v) (unwrap_or (past_of_journal rules.limits after v) [])) is.0)
      | inr over ↦ known ∙ sym seen
          ∙ sym (ap (λ (b : Bool). cond b (version rules.limits journal v) (unwrap_or (past_of_journal rules.limits after v) [])) over.0)
    ]

-- up to the journal's last version any past will do
pub no_past : (rules : Rules) (journal : Journal) (past other : ℕ → Option Songs) (v : ℕ) → v ≤ length journal → songs_seen rules journal past v ≡ songs_seen rules journal other v
no_past rules journal past other v low = elim (leb_tells v (length journal)) [
  | inl is ↦ ap (λ (b : Bool). cond b (version rules.limits journal v) (unwrap_or (past v) [])) is.0
      ∙ sym (ap (λ (b : Bool). cond b (version rules.limits journal v) (unwrap_or (other v) [])) is.0)
  | inr over ↦ absurd (omega (arith, low, over.1))
]

-- the version of a block is that of a look
block_at_most : (ms : List Moment) (looks : List ℕ) (from to : ℕ) → Rise from looks to → (n v : ℕ) → slice_get (versions_of_blocks ms looks) n ≡ Some v → v ≤ to
block_at_most [] looks from to rise n v at = past_end v (v ≤ to) at
block_at_most (m ∷ ms) [] from to rise n v at = past_end v (v ≤ to) at
block_at_most (Full block ∷ ms) (w ∷ looks) from to rise zero v at = subst (λ x. x ≤ to) (some_of w v at) (Rise-le w to looks rise.1)
block_at_most (Full block ∷ ms) (w ∷ looks) from to rise (suc n) v at = block_at_most ms looks w to rise.1 n v at
block_at_most (Asks asked ∷ ms) (w ∷ looks) from to rise n v at = block_at_most ms looks w to rise.1 n v at

version_at : (reported : List Reported) (n : ℕ) (r : Reported) → slice_get reported n ≡ Some r → slice_get (versions_of reported) n ≡ Some r.version
version_at [] n r at = past_end r (slice_get [] n ≡ Some r.version) at
version_at (q ∷ qs) zero r at = ap (λ (x : Reported). Some x.version) (some_of q r at)
version_at (q ∷ qs) (suc n) r at = version_at qs n r at

at_front : (xs ys : List ℕ) (n v : ℕ) → slice_get xs n ≡ Some v → slice_get (xs ++ ys) n ≡ Some v
at_front [] ys n v at = past_end v (slice_get ys n ≡ Some v) at
at_front (x ∷ xs) ys zero v at = at
at_front (x ∷ xs) ys (suc n) v at = at_front xs ys n v at

-- no line's version is over that of the last look
reported_low : (rules : Rules) (songs : ℕ → Songs) (station : ℕ) (h : Heard) → HasLines rules songs station h → (torn : Bool) → is_torn h.end ≡ torn
    → (n : ℕ) (r : Reported) → slice_get h.reported n ≡ Some r → r.version ≤ last_version h.looks
reported_low rules songs station h lines false is n r at =
    block_at_most (moments_heard rules h) h.looks 0 (last_version h.looks) lines.never_fall n r.version
    (subst (λ vs. slice_get vs n ≡ Some r.version) (lines.versions is) (version_at h.reported n r at))
reported_low rules songs station h lines true is n r at =
    block_at_most (moments_heard rules h) h.looks 0 (last_version h.looks) lines.never_fall n r.version
    (subst (λ vs. slice_get vs n ≡ Some r.version) (sym (lines.torn is).versions)
    (at_front (versions_of h.reported) (last_version h.looks ∷ []) n r.version (version_at h.reported n r at)))

-- Lines over songs are lines over others that are the same up to the last look's version.
pub other_songs : (rules : Rules) (songs others : ℕ → Songs) (station : ℕ) (h : Heard) → ((v : ℕ) → v ≤ last_version h.looks → songs v ≡ others v)
    → HasLines rules songs station h → HasLines rules others station h
other_songs rules songs others station h same lines = record {
  lists = λ n block r at_block at_line. lines.lists n block r at_block at_line
      ∙ ap (matches block.query) (same r.version (reported_low rules songs station h lines (is_torn h.end) refl n r at_line));
  never_fall = lines.never_fall;
  all = lines.all;
  whole = lines.whole;
  looks = lines.looks;
  versions = lines.versions;
  torn = λ is.
      let t : IsTorn rules songs station h = lines.torn is in
      let last : songs (last_version h.looks) ≡ others (last_version h.looks) = same (last_version h.looks) (omega arith) in
      record {
        block = t.block;
        missing = t.missing;
        next = t.next;
        looks = t.looks;
        versions = t.versions;
        line = ap (λ (s : Songs). printed_text (reported_line station (length h.reported, t.block) (record { version = last_version h.looks; list = matches t.block.query s }))) (sym last) ∙ t.line;
        proper = t.proper;
      };
}
