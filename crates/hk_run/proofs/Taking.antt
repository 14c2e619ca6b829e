-- A byte of the input: what it leaves of what was played.
use Rattle.std.proofs.Common.{◌≡◌, ℕ, List, [], ◌∷◌, ◌++◌, refl, sym, ◌∙◌, ap, subst, arith, append-nil, append_assoc, Option, Some, None}
use Rattle.std.specs.Prelude.{flat_map}
use Rattle.std.specs.Option.{option_or, option_map_or}
use Rattle.hk_base.specs.declared.plain.Trouble.{Trouble}
use Rattle.hk_base.specs.declared.plain.Trouble.TheVariants.{BadRecord}
use Rattle.std.proofs.lemmas.List.Concat.{flat_map-append}
use Rattle.hk_base.specs.Devices.{Wrote, WroteFront}
use Rattle.hk_spec_streams.specs.Records.{input_met, open_record}
use Rattle.hk_spec_streams.proofs.FirstFault.{fault_of-none}
use Rattle.hk_base.specs.declared.plain.What.{What}
use Rattle.hk_spec_lines.specs.Lines.{Printed, Replied, printed_text, reply_line}
use Rattle.hk_spec_settings.specs.Settings.{Rules}
use Rattle.hk_spec_runs.specs.Outcome.{task_of}
use Rattle.hk_spec_runs.specs.Replay.{Scene, scene_of}
use Rattle.hk_spec_runs.specs.Words.{Replay}
use Rattle.hk_records.specs.Reader.{HasRead, came_at, input_limit, stations_of}
use Rattle.hk_records.specs.declared.reader.Came.{Came}
use Rattle.hk_records.specs.declared.reader.RecordReader.{RecordReader}
use Rattle.hk_base.proofs.Taking.{Wrote-nothing}
use Rattle.hk_player.specs.Playing.{Adds, TearsBehind, StopsBehind}
use Rattle.hk_player.proofs.Steps.{regrouped}
use Rattle.hk_words.specs.Rules.{rules_meant}
use Rattle.hk_words.specs.declared.rules.RunRules.{RunRules}
use Rattle.hk_run.specs.Course.{scene_after, printed_for}
use Rattle.hk_run.specs.Holding.{Holds}
use Rattle.hk_run.specs.Playing.{HasPlayed, IsSettled, AddsScene, AddsSceneFront}
use Rattle.hk_run.specs.declared.run.Run.{Run}
use Rattle.hk_run.proofs.Printing.{goes}
use Rattle.hk_run.proofs.Seen.{stops-fault, stops-seen}
use Rattle.hk_run.proofs.Tasks.{text_is}

-- a run with the same parts holds the same
pub held_by : (rules : Rules) (run run' : Run) (scene : Scene) → run'.stations ≡ run.stations → run'.operator ≡ run.operator → run'.catalogue ≡ run.catalogue
    → Holds rules run scene → Holds rules run' scene
held_by rules run run' scene stations operators catalogues h = record { hears = rw stations h.hears; obeys = rw (operators, catalogues) h.obeys }

module _ (rules : Rules) (run : Run) (refused text : List ℕ) (byte : ℕ) (h : HasPlayed rules run refused text) where
  -- what the reader tells, as the definitions have it
  pub came_is : (told : Came) → told ≡ came_at (stations_of run.reader) (input_limit run.reader) (text ++ byte ∷ []) → came_at rules.stations rules.bytes (text ++ byte ∷ []) ≡ told
  came_is told is =
      ap (λ s. came_at s rules.bytes (text ++ byte ∷ [])) (sym h.stations) ∙ ap (λ l. came_at (stations_of run.reader) l (text ++ byte ∷ [])) (sym h.limit) ∙ sym is

  module _ (reader : RecordReader) (read : HasRead reader (text ++ byte ∷ [])) (limit : input_limit reader ≡ input_limit run.reader) (stations : stations_of reader ≡ stations_of run.reader) where
    -- the run goes on with the scene of some list of refused commands
    pub plays_on : (run' : Run) (refused' : List ℕ) (next : Scene) → input_met rules.stations rules.bytes (text ++ byte ∷ []) ≡ None → run'.reader ≡ reader → scene_after rules refused' (text ++ byte ∷ []) ≡ next
        → IsSettled rules refused' (text ++ byte ∷ []) → Holds rules run' next → HasPlayed rules run' refused' (text ++ byte ∷ [])
    plays_on run' refused' next none readers is settled holds = record {
      read = rw readers read;
      limit = ap input_limit readers ∙ limit ∙ h.limit;
      stations = ap stations_of readers ∙ stations ∙ h.stations;
      in_form = record {
        reads = refl;
        no_fault = fault_of-none (input_met rules.stations rules.bytes) text byte h.in_form.no_fault none;
        few = omega (arith, read.within, read.taken, limit, h.limit, h.most);
      };
      most = h.most;
      holds = subst (λ (s : Scene). Holds rules run' s) (sym is) holds;
      settled = settled;
    }

  module _ (refused' : List ℕ) (none : input_met rules.stations rules.bytes (text ++ byte ∷ []) ≡ None) (next : Scene) (is : scene_after rules refused' (text ++ byte ∷ []) ≡ next) where
    fine : (task_of (Replay rules)).met (text ++ byte ∷ []) ≡ None
    fine = fault_of-none (input_met rules.stations rules.bytes) text byte h.in_form.no_fault none

    prints_more : (more : List Printed) → next.printed ≡ (scene_after rules refused text).printed ++ more
        → printed_for rules refused' (text ++ byte ∷ []) ≡ (task_of (Replay rules)).text text refused ++ flat_map printed_text more
    prints_more more prints =
        ap (λ (s : Scene). flat_map printed_text s.printed) is ∙ ap (flat_map printed_text) prints
        ∙ flat_map-append printed_text (scene_after rules refused text).printed more
        ∙ ap (λ t. t ++ flat_map printed_text more) (sym (text_is rules refused text h.in_form.no_fault))

    pub adds_all : (w y : Option (List ℕ)) → AddsScene (scene_after rules refused text) next w y → Adds (task_of (Replay rules)) refused text refused' (text ++ byte ∷ []) w y
    adds_all w y adds = (flat_map printed_text adds.0, text_is rules refused' (text ++ byte ∷ []) fine ∙ prints_more adds.0 adds.1, adds.2)

    -- whatever bytes follow
    pub adds_some : (w y : Option (List ℕ)) → AddsSceneFront (scene_after rules refused text) next w y → TearsBehind (task_of (Replay rules)) refused text byte w y
    adds_some w y adds = (
      refused',
      λ more.
          let front = adds.2 in
          let on = goes rules refused' (text ++ byte ∷ []) fine more in (
            front.0,
            front.1 ++ on.0,
            ap (λ t. (task_of (Replay rules)).text t refused') (sym (append_assoc text (byte ∷ []) more)) ∙ on.1
                ∙ ap (λ t. t ++ on.0) (prints_more adds.0 adds.1 ∙ ap (λ t. (task_of (Replay rules)).text text refused ++ t) front.2)
                ∙ regrouped ((task_of (Replay rules)).text text refused) front.0 front.1 on.0,
            front.4,
          ),
    )

    pub adds_none : (w : Option (List ℕ)) → next.printed ≡ (scene_after rules refused text).printed → Adds (task_of (Replay rules)) refused text refused' (text ++ byte ∷ []) w w
    adds_none w same = adds_all w w ([], same ∙ sym (append-nil (scene_after rules refused text).printed), Wrote-nothing w)

  -- a bad byte stops the run, whatever follows it
  pub stops : (trouble : Trouble) → input_met rules.stations rules.bytes (text ++ byte ∷ []) ≡ Some trouble → StopsBehind (task_of (Replay rules)) refused text byte trouble
  unfolding scene_of
  stops trouble meets more =
      let met = input_met rules.stations rules.bytes in
      let fault = stops-fault met text byte more trouble h.in_form.no_fault meets in (
        record { met = fault; wrong = ap (λ f. option_or f (option_map_or (λ r. Some (BadRecord r.place)) (open_record (text ++ byte ∷ more)) None)) fault },
        ap (printed_for rules refused) (stops-seen met text byte more trouble h.in_form.no_fault meets) ∙ sym (text_is rules refused text h.in_form.no_fault),
      )

-- the line of a reply, as what is printed for it
pub written_as : (n m : ℕ) (what : What) (u v : Option (List ℕ)) → n ≡ m → Wrote (reply_line n what) u v → Wrote (flat_map printed_text (Replied m what ∷ [])) u v
written_as n m what u v same wrote =
    subst (λ (t : List ℕ). Wrote t u v) (ap (λ k. reply_line k what) same ∙ sym (append-nil (reply_line m what))) wrote

pub front_as : (n m : ℕ) (what : What) (u v : Option (List ℕ)) → n ≡ m → WroteFront (reply_line n what) u v → WroteFront (flat_map printed_text (Replied m what ∷ [])) u v
front_as n m what u v same front =
    subst (λ (t : List ℕ). WroteFront t u v) (ap (λ k. reply_line k what) same ∙ sym (append-nil (reply_line m what))) front

-- the run's rules are those that it had
pub by_rules : (rules : RunRules) (run : Run) (refused text : List ℕ) → run.rules ≡ rules → HasPlayed (rules_meant rules) run refused text → HasPlayed (rules_meant run.rules) run refused text
by_rules rules run refused text same h = subst (λ (r : RunRules). HasPlayed (rules_meant r) run refused text) (sym same) h
