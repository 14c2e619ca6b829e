-- What the stations and the operator did in a run.
use Rattle.std.specs.Prelude.{◌≡◌, ℕ, ◌-◌, ◌<◌, ◌≤◌, nat_le, Bool, true, false, if◌then◌else◌, unwrap_or, List, [], ◌∷◌, ◌++◌, map, length, take, flat_map, zip, slice_get, Option, Some}
use Rattle.std.specs.List.{All, enumerate_from}
use Rattle.hk_base.specs.declared.plain.What.{What}
use Rattle.hk_base.specs.declared.plain.End.{End}
use Rattle.hk_base.specs.declared.plain.End.TheVariants as ends
use Rattle.hk_base.specs.declared.plain.OpEnd.{OpEnd}
use Rattle.hk_base.specs.declared.plain.OpEnd.TheVariants as op_ends
use Rattle.hk_spec_streams.specs.Station.{station_used}
use Rattle.hk_spec_streams.specs.Blocks.{Block, Moment, head_of, blocks, moments}
use Rattle.hk_spec_streams.specs.Operator.{Command, commands, operator_seen}
use Rattle.hk_spec_matching.specs.Catalogue.{Songs, Journal, Rise, version}
use Rattle.hk_spec_matching.specs.Matching.{matches}
use Rattle.hk_spec_lines.specs.Lines.{Printed, Report, printed_text, reply_line}
use Rattle.hk_spec_settings.specs.Settings.{Rules}
use Rattle.hk_spec_runs.specs.OperatorState.{new_state, Replies, journal_of}
use Rattle.hk_spec_runs.specs.History.{Reported, history, IsLegal}
use Rattle.hk_spec_monitor.specs.Looks.{versions_of_blocks, last_version, until_block}

-- A station: the bytes taken from its link, the versions of its looks, what each whole line of its log reports, the front of a
-- line that was torn, and its end.
pub record Heard : Type 0 where
  pub taken : List ℕ
  pub looks : List ℕ
  pub reported : List Reported
  pub torn : List ℕ
  pub end : End

-- The operator: the bytes taken, the reply to each command that was done, the front of a reply that was torn, and the end.
pub record Obeyed : Type 0 where
  pub taken : List ℕ
  pub replies : List What
  pub torn : List ℕ
  pub end : OpEnd

-- a run: each station, by its number, the operator, and what was published
pub record Run : Type 0 where
  pub stations : List Heard
  pub operator : Obeyed
  pub journal : Journal

-- a fact of each station of a run, with its number
abbrev pub EachStation : Run → (ℕ → Heard → Type 0) → Type 0
EachStation run P = (n : ℕ) (h : Heard) → slice_get run.stations n ≡ Some h → P n h

-- A station's log failed, so that its last line may be torn.
abbrev pub is_torn : End → Bool
is_torn ends.SinkFault = true
is_torn ends.Ended = false
is_torn (ends.Wire fault) = false
is_torn (ends.FenceAhead asked found) = false
is_torn ends.ReadFault = false
is_torn ends.GateFault = false

-- the same of the operator, whose replies failed
abbrev pub is_reply_torn : OpEnd → Bool
is_reply_torn op_ends.SinkFault = true
is_reply_torn op_ends.Ended = false
is_reply_torn (op_ends.Wire fault) = false
is_reply_torn op_ends.ReadFault = false

-- the replies that were written whole: all, or all but the last where that was torn
abbrev pub whole_replies : Obeyed → List What
whole_replies o = if is_reply_torn o.end then take (length o.replies - 1) o.replies else o.replies

-- the versions that a station's whole lines give
abbrev pub versions_of : List Reported → List ℕ
versions_of reported = map (λ r. r.version) reported

-- The songs at a version: those of the journal, and over its last version those of a past.
abbrev pub songs_seen : Rules → Journal → (ℕ → Option Songs) → ℕ → Songs
songs_seen rules journal past v = if nat_le v (length journal) then version rules.limits journal v else unwrap_or (past v) []

-- what a line of a station's numbered block reports
abbrev pub reported_line : ℕ → ℕ × Block → Reported → Printed
reported_line station numbered r = Report (head_of station numbered.0 numbered.1 r.version) r.list

module _ (rules : Rules) where
  -- the bytes that a station used, and what they complete
  abbrev pub used : Heard → List ℕ
  used h = station_used rules.bytes h.end h.taken

  abbrev pub blocks_heard : Heard → List Block
  blocks_heard h = blocks rules.setting (used h)

  abbrev pub moments_heard : Heard → List Moment
  moments_heard h = moments rules.setting (used h)

  -- the whole lines of a station's log
  abbrev pub lines_text : ℕ → Heard → List ℕ
  lines_text station h = flat_map (λ p. printed_text (reported_line station p.0 p.1)) (zip (enumerate_from 0 (blocks_heard h)) h.reported)

  -- all that its log has
  abbrev pub log_text : ℕ → Heard → List ℕ
  log_text station h = lines_text station h ++ h.torn

  -- The next block's line is torn, and its look was the last one.
  pub record IsTorn (songs : ℕ → Songs) (station : ℕ) (h : Heard) : Type 0 where
    pub block : Block
    pub missing : List ℕ
    pub next : slice_get (blocks_heard h) (length h.reported) ≡ Some block
    pub looks : length h.looks ≡ length (until_block (length h.reported) (moments_heard h))
    pub versions : versions_of_blocks (moments_heard h) h.looks ≡ versions_of h.reported ++ last_version h.looks ∷ []
    pub line : printed_text (reported_line station (length h.reported, block) (record { version = last_version h.looks; list = matches block.query (songs (last_version h.looks)) })) ≡ h.torn ++ missing
    pub proper : 0 < length missing

  -- A station has one line for each block of what it used, at the version of that block's look, and the line lists exactly the
  -- matches in the songs of that version. Versions never fall. Where the log failed, this is so of the first blocks, and the next
  -- line is torn.
  pub record HasLines (songs : ℕ → Songs) (station : ℕ) (h : Heard) : Type 0 where
    pub lists : (n : ℕ) (block : Block) (r : Reported) → slice_get (blocks_heard h) n ≡ Some block → slice_get h.reported n ≡ Some r
        → r.list ≡ matches block.query (songs r.version)
    pub never_fall : Rise 0 h.looks (last_version h.looks)
    pub all : is_torn h.end ≡ false → length h.reported ≡ length (blocks_heard h)
    pub whole : is_torn h.end ≡ false → h.torn ≡ []
    pub looks : is_torn h.end ≡ false → length h.looks ≡ length (moments_heard h)
    pub versions : is_torn h.end ≡ false → versions_of h.reported ≡ versions_of_blocks (moments_heard h) h.looks
    pub torn : is_torn h.end ≡ true → IsTorn songs station h

  -- the commands that are whole in what the operator's bytes show
  abbrev pub commands_heard : Obeyed → List Command
  commands_heard o = commands (operator_seen rules.bytes o.taken)

  -- replies as they are written, numbered from 1
  abbrev pub replies_text : List What → List ℕ
  replies_text replies = flat_map (λ p. reply_line p.0 p.1) (enumerate_from 1 replies)

  -- all that was written of the replies
  abbrev pub answers_text : Obeyed → List ℕ
  answers_text o = replies_text (whole_replies o) ++ o.torn

  -- The last reply is torn. Its command was done.
  pub record IsReplyTorn (o : Obeyed) : Type 0 where
    pub what : What
    pub missing : List ℕ
    pub last : o.replies ≡ whole_replies o ++ what ∷ []
    pub line : reply_line (length o.replies) what ≡ o.torn ++ missing
    pub proper : 0 < length missing

  -- The replies fit the commands one after another, and the journal is what they publish. Each whole command has its reply; where a
  -- reply was torn, it is that of the command after the last whole reply.
  pub record HasReplies (journal : Journal) (o : Obeyed) : Type 0 where
    pub fit : Replies rules new_state (take (length o.replies) (commands_heard o)) o.replies
    pub journal_is : journal ≡ journal_of rules o.taken o.replies
    pub all : is_reply_torn o.end ≡ false → length o.replies ≡ length (commands_heard o)
    pub whole : is_reply_torn o.end ≡ false → o.torn ≡ []
    pub torn : is_reply_torn o.end ≡ true → IsReplyTorn o

  -- what a run's history is made of: each station's blocks and what was reported of them
  abbrev pub stations_of : Run → List (List Block × List Reported)
  stations_of run = map (λ h. (blocks_heard h, h.reported)) run.stations

  -- The looks and the publishes are one history that one thread could have made, and no look's version is over the journal.
  pub record IsOneHistory (run : Run) : Type 0 where
    pub legal : IsLegal rules.limits (history run.journal (stations_of run))
    pub within : All (λ h. All (λ v. v ≤ length run.journal) h.looks) run.stations
