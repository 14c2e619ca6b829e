-- What is counted in the text of a replay is what its reports and replies tell.
use Rattle.std.proofs.Common.{◌≡◌, ℕ, ◌+◌, ◌++◌, List, [], ◌∷◌, refl, ap, ◌∙◌, arith, append_assoc}
use Rattle.std.specs.Prelude.{flat_map, sum_by}
use Rattle.std.proofs.lemmas.List.Sums.{sum_by-cons}
use Rattle.hk_base.specs.declared.plain.Reason.TheVariants.{Duplicate, Short, Unknown, SongsFull, PositionsFull, VersionsFull, SongOpen, NoSongOpen, NoMemory}
use Rattle.hk_base.specs.declared.plain.What.{What}
use Rattle.hk_base.specs.declared.plain.What.TheVariants.{Done, Published, Refused}
use Rattle.hk_spec_lines.specs.Lines.{Printed, Report, Replied, printed_text, station_line, operator_line}
use Rattle.hk_spec_lines.specs.Make.{Tally, nothing_counted, tally_of, with_printed}
use Rattle.hk_spec_lines.proofs.Tallies.{same_tally, printed_counts}
use Rattle.hk_spec_settings.specs.Settings.{Rules}
use Rattle.hk_spec_runs.specs.Replay.{Listener, Scene, scene_of, summary, replay}
use Rattle.hk_spec_runs.specs.Make.{reports_of, items_of}

-- whether a reply tells a version, and whether it tells want of memory
abbrev pub versions_in : What → ℕ
versions_in (Published v) = 1
versions_in what = 0

abbrev pub refusals_in : What → ℕ
refusals_in (Refused NoMemory) = 1
refusals_in what = 0

abbrev pub versions_of : Printed → ℕ
versions_of (Report head list) = 0
versions_of (Replied n what) = versions_in what

abbrev pub refusals_of : Printed → ℕ
refusals_of (Report head list) = 0
refusals_of (Replied n what) = refusals_in what

-- all of it told
abbrev pub told_by : List Printed → Tally
told_by ps = record { blocks = sum_by reports_of ps; matches = sum_by items_of ps; versions = sum_by versions_of ps; refusals = sum_by refusals_of ps }

module _ (p : Printed) (ps : List Printed) where
  -- by the numbers that the first one tells
  told_first : (t : Tally) → t.blocks ≡ reports_of p + sum_by reports_of ps → t.matches ≡ items_of p + sum_by items_of ps
      → t.versions ≡ versions_of p + sum_by versions_of ps → t.refusals ≡ refusals_of p + sum_by refusals_of ps → t ≡ told_by (p ∷ ps)
  told_first t bs ms vs rs = same_tally t (told_by (p ∷ ps))
      (omega (arith, bs, sum_by-cons reports_of p ps)) (omega (arith, ms, sum_by-cons items_of p ps))
      (omega (arith, vs, sum_by-cons versions_of p ps)) (omega (arith, rs, sum_by-cons refusals_of p ps))

told_more : (p : Printed) (ps : List Printed) → with_printed p (told_by ps) ≡ told_by (p ∷ ps)
told_more (Report head list) ps = told_first (Report head list) ps (with_printed (Report head list) (told_by ps)) (omega arith) refl (omega arith) (omega arith)
told_more (Replied n Done) ps = told_first (Replied n Done) ps (told_by ps) (omega arith) (omega arith) (omega arith) (omega arith)
told_more (Replied n (Published v)) ps = told_first (Replied n (Published v)) ps (with_printed (Replied n (Published v)) (told_by ps)) (omega arith) (omega arith) (omega arith) (omega arith)
told_more (Replied n (Refused NoMemory)) ps = told_first (Replied n (Refused NoMemory)) ps (with_printed (Replied n (Refused NoMemory)) (told_by ps)) (omega arith) (omega arith) (omega arith) (omega arith)
told_more (Replied n (Refused Duplicate)) ps = told_first (Replied n (Refused Duplicate)) ps (told_by ps) (omega arith) (omega arith) (omega arith) (omega arith)
told_more (Replied n (Refused Short)) ps = told_first (Replied n (Refused Short)) ps (told_by ps) (omega arith) (omega arith) (omega arith) (omega arith)
told_more (Replied n (Refused Unknown)) ps = told_first (Replied n (Refused Unknown)) ps (told_by ps) (omega arith) (omega arith) (omega arith) (omega arith)
told_more (Replied n (Refused SongsFull)) ps = told_first (Replied n (Refused SongsFull)) ps (told_by ps) (omega arith) (omega arith) (omega arith) (omega arith)
told_more (Replied n (Refused PositionsFull)) ps = told_first (Replied n (Refused PositionsFull)) ps (told_by ps) (omega arith) (omega arith) (omega arith) (omega arith)
told_more (Replied n (Refused VersionsFull)) ps = told_first (Replied n (Refused VersionsFull)) ps (told_by ps) (omega arith) (omega arith) (omega arith) (omega arith)
told_more (Replied n (Refused SongOpen)) ps = told_first (Replied n (Refused SongOpen)) ps (told_by ps) (omega arith) (omega arith) (omega arith) (omega arith)
told_more (Replied n (Refused NoSongOpen)) ps = told_first (Replied n (Refused NoSongOpen)) ps (told_by ps) (omega arith) (omega arith) (omega arith) (omega arith)

-- lines before something in which nothing is counted
lines_count : (ps : List Printed) (last : List ℕ) → tally_of last ≡ nothing_counted → tally_of (flat_map printed_text ps ++ last) ≡ told_by ps
lines_count [] last silent = silent
lines_count (p ∷ ps) last silent =
    ap tally_of (append_assoc (printed_text p) (flat_map printed_text ps) last)
    ∙ printed_counts p (flat_map printed_text ps ++ last)
    ∙ ap (with_printed p) (lines_count ps last silent)
    ∙ told_more p ps

-- the first byte of a summary ends the count
summary_silent : (rules : Rules) (listeners : List Listener) (scene : Scene) → tally_of (summary rules (record scene { listeners = listeners })) ≡ nothing_counted
unfolding tally_of station_line operator_line
summary_silent rules [] scene = refl
summary_silent rules (l ∷ listeners) scene = refl

pub replay_counts : (rules : Rules) (input refused : List ℕ) → tally_of (replay rules input refused) ≡ told_by (scene_of rules input refused).printed
unfolding replay
replay_counts rules input refused =
    let scene : Scene = scene_of rules input refused in
    lines_count scene.printed (summary rules scene) (summary_silent rules scene.listeners scene)
