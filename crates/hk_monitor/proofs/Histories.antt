-- Stations in any order make one legal history.
use Rattle.std.proofs.Common.{◌≡◌, ◌<◌, ℕ, zero, suc, Some, List, [], ◌∷◌, map, length, slice_get, refl, ap, subst, arith}
use Rattle.hk_spec_streams.specs.Blocks.{Block}
use Rattle.hk_spec_matching.specs.Catalogue.{Songs, Journal, version}
use Rattle.hk_spec_matching.specs.Matching.{matches}
use Rattle.hk_base.specs.declared.plain.Head.{Head}
use Rattle.hk_base.specs.declared.plain.Match.{Match}
use Rattle.hk_spec_lines.specs.Lines.{printed_text, line}
use Rattle.hk_spec_settings.specs.Settings.{Rules}
use Rattle.hk_spec_runs.specs.History.{Reported, history, IsLegal}
use Rattle.hk_spec_monitor.specs.Looks.{last_version}
use Rattle.hk_spec_monitor.specs.Run.{Heard, Obeyed, HasLines, IsTorn, songs_seen, stations_of, blocks_heard, reported_line}
use Rattle.hk_spec_monitor.proofs.Legal.{lines_are_legal, some_of}
use Rattle.hk_spec_monitor.proofs.Logs.{past_end}
use Rattle.hk_monitor.specs.Crew.{run_of}

-- a line is never empty
line_is_some : (head : Head) (list : List Match) → 0 < length (line head list)
unfolding line
line_is_some head list = omega arith

-- the station without what is left of a torn line
abbrev untorn : Heard → Heard
untorn h = record h { torn = [] }

-- the lines of a station that has another number
renumbered : (rules : Rules) (songs : ℕ → Songs) (station other : ℕ) (h : Heard) → HasLines rules songs station h → HasLines rules songs other (untorn h)
renumbered rules songs station other h lines = record {
  lists = lines.lists;
  never_fall = lines.never_fall;
  all = lines.all;
  whole = λ is. refl;
  looks = lines.looks;
  versions = lines.versions;
  torn = λ is.
      let t : IsTorn rules songs station h = lines.torn is in
      record {
        block = t.block;
        missing = printed_text (reported_line other (length h.reported, t.block) (record { version = last_version h.looks; list = matches t.block.query (songs (last_version h.looks)) }));
        next = t.next;
        looks = t.looks;
        versions = t.versions;
        line = refl;
        proper = line_is_some (record { station = other; block = length h.reported; segment = t.block.segment; first = t.block.first; version = last_version h.looks }) (matches t.block.query (songs (last_version h.looks)));
      };
}

-- what a history has of a station
abbrev part_of : Rules → Heard → List Block × List Reported
part_of rules h = (blocks_heard rules h, h.reported)

-- it stays
same_parts : (rules : Rules) (named : List Heard) → map (part_of rules) (map untorn named) ≡ map (part_of rules) named
same_parts rules [] = refl
same_parts rules (h ∷ hs) = ap (λ rest. part_of rules h ∷ rest) (same_parts rules hs)

at_untorn : (named : List Heard) (n : ℕ) (g : Heard) → slice_get (map untorn named) n ≡ Some g → (h : Heard) × (slice_get named n ≡ Some h) × (untorn h ≡ g)
at_untorn [] n g at = past_end g ((h : Heard) × (slice_get [] n ≡ Some h) × (untorn h ≡ g)) at
at_untorn (h ∷ hs) zero g at = (h, refl, some_of (untorn h) g at)
at_untorn (h ∷ hs) (suc n) g at = at_untorn hs n g at

-- Each of these stations has lines, at a number of its own, over the journal's songs.
abbrev pub HaveLines : Rules → (ℕ → Songs) → List Heard → Type 0
HaveLines rules songs named = (n : ℕ) (h : Heard) → slice_get named n ≡ Some h → (station : ℕ) × HasLines rules songs station h

pub legal_in_any_order : (rules : Rules) (journal : Journal) (operator : Obeyed) (named : List Heard)
    → HaveLines rules (songs_seen rules journal (λ v. Some (version rules.limits journal v))) named
    → IsLegal rules.limits (history journal (stations_of rules (run_of named operator journal)))
legal_in_any_order rules journal operator named lines =
    let songs = songs_seen rules journal (λ v. Some (version rules.limits journal v)) in
    subst (λ stations. IsLegal rules.limits (history journal stations)) (same_parts rules named)
    (lines_are_legal rules (run_of (map untorn named) operator journal) (λ n v. Some (version rules.limits journal v)) (λ n g at.
    let found = at_untorn named n g at in
    let of = lines n found.0 found.1 in
    subst (HasLines rules songs n) found.2 (renumbered rules songs of.0 n found.0 of.1)))
