-- A replay that tells no want of memory is the one in which no command is refused for it.
use Rattle.std.proofs.Common.{◌≡◌, ℕ, ◌+◌, ◌≤◌, ◌++◌, Bool, true, false, List, [], ◌∷◌, refl, ap, ◌∙◌, arith, Option, Some, None, fold, length, map}
use Rattle.std.specs.Prelude.{sum_by, slice_get, is_some, not, ◌&&◌, if◌then◌else◌}
use Rattle.std.specs.Option.{option_map_or}
use Rattle.std.specs.List.{enumerate_from}
use Rattle.std.proofs.lemmas.List.Sums.{sum_by-append, sum_by-cons}
use Rattle.hk_base.specs.declared.plain.WireFault.{WireFault}
use Rattle.hk_base.specs.declared.plain.What.{What}
use Rattle.hk_base.specs.declared.plain.What.TheVariants.{Refused}
use Rattle.hk_base.specs.declared.plain.Reason.TheVariants.{NoMemory}
use Rattle.hk_base.specs.declared.plain.OpEnd.TheVariants as op_ends
use Rattle.hk_spec_streams.specs.Pieces.{completed, is_one_of, first_that_holds}
use Rattle.hk_spec_streams.specs.Operator.{Command, operator_met, commands}
use Rattle.hk_spec_streams.specs.Records.{Arrival, ForStation, ForOperator, arrivals, input_seen}
use Rattle.hk_spec_lines.specs.Lines.{Replied}
use Rattle.hk_spec_settings.specs.Settings.{Rules}
use Rattle.hk_spec_matching.specs.Catalogue.{Journal}
use Rattle.hk_spec_streams.specs.Blocks.{Block}
use Rattle.hk_spec_runs.specs.OperatorState.{OperatorState, refusals, answer, after}
use Rattle.hk_spec_runs.specs.Replay.{Listener, Scene, report, reports, heard, reply_to, obeyed, for_station, arrived, opening, scene_of}
use Rattle.hk_spec_runs.proofs.Tallies.{refusals_of, refusals_in}

-- Two ways to go through a list that step alike wherever a number that never falls is 0.
module _ {A B : Type 0} (told : B → ℕ) (f g : B → A → B) (grows : (b : B) (x : A) → told b ≤ told (f b x)) (alike : (b : B) (x : A) → told (f b x) ≡ 0 → f b x ≡ g b x) where
  never_falls : (b : B) (xs : List A) → told b ≤ told (fold f b xs)
  never_falls b [] = omega arith
  never_falls b (x ∷ xs) = omega (arith, grows b x, never_falls (f b x) xs)

  folds_alike : (b : B) (xs : List A) → told (fold f b xs) ≡ 0 → fold f b xs ≡ fold g b xs
  folds_alike b [] none = refl
  folds_alike b (x ∷ xs) none =
      folds_alike (f b x) xs none ∙ ap (λ b'. fold g b' xs) (alike b x (omega (arith, none, never_falls (f b x) xs)))

-- how many commands of a scene were refused for memory
abbrev pub refused_in : Scene → ℕ
refused_in scene = sum_by refusals_of scene.printed

-- a report tells no want of memory
reports_told : (rules : Rules) (station : ℕ) (journal : Journal) (v : ℕ) (numbered : List (ℕ × Block)) → sum_by refusals_of (map (report rules station journal v) numbered) ≡ 0
unfolding report
reports_told rules station journal v [] = refl
reports_told rules station journal v (n ∷ numbered) =
    omega (arith, sum_by-cons refusals_of (report rules station journal v n) (map (report rules station journal v) numbered), reports_told rules station journal v numbered)

module _ (rules : Rules) (refused : List ℕ) where
  reply_alike : (n : ℕ) (state : OperatorState) (c : Command) → refusals_in (reply_to rules refused n state c) ≡ 0 → reply_to rules refused n state c ≡ reply_to rules [] n state c
  reply_alike n state c = by (is_one_of refused n && not (is_some (first_that_holds (refusals rules state c))))
    where
      by : (b : Bool) → refusals_in (if b then Refused NoMemory else answer rules state c) ≡ 0 → (if b then Refused NoMemory else answer rules state c) ≡ answer rules state c
      by true none = absurd (omega (arith, none))
      by false none = refl

  with_reply_told : (scene : Scene) (n : ℕ) (what : What) → sum_by refusals_of (scene.printed ++ Replied n what ∷ []) ≡ refused_in scene + refusals_in what
  with_reply_told scene n what = omega (arith, sum_by-append refusals_of scene.printed (Replied n what ∷ []), sum_by-cons refusals_of (Replied n what) [])

  obeyed_grows : (scene : Scene) (c : ℕ × Command) → refused_in scene ≤ refused_in (obeyed rules refused scene c)
  obeyed_grows scene c = omega (arith, with_reply_told scene c.0 (reply_to rules refused c.0 scene.state c.1))

  obeyed_alike : (scene : Scene) (c : ℕ × Command) → refused_in (obeyed rules refused scene c) ≡ 0 → obeyed rules refused scene c ≡ obeyed rules [] scene c
  obeyed_alike scene c none =
      ap (λ what. record scene { state = after rules scene.state c.1 what; printed = scene.printed ++ Replied c.0 what ∷ [] })
      (reply_alike c.0 scene.state c.1 (omega (arith, none, with_reply_told scene c.0 (reply_to rules refused c.0 scene.state c.1))))

  station_grows : (scene : Scene) (station byte : ℕ) (o : Option Listener) → refused_in scene ≤ refused_in (for_station rules scene station byte o)
  station_grows scene station byte None = omega arith
  station_grows scene station byte (Some l) =
      let now : Listener = if is_some l.end then l else heard rules (length scene.state.journal) l byte in
      omega (arith, sum_by-append refusals_of scene.printed (reports rules station scene.state.journal l now))

  -- one of three scenes: this one, one with a fault, or one in which commands were obeyed
  abbrev chosen : Bool → Option WireFault → Scene → (WireFault → Scene) → Scene → Scene
  chosen b o scene at on = if b then scene else option_map_or at o on

  chosen_grows : (b : Bool) (o : Option WireFault) (scene : Scene) (at : WireFault → Scene) (on : Scene) → ((fault : WireFault) → refused_in scene ≤ refused_in (at fault))
      → refused_in scene ≤ refused_in on → refused_in scene ≤ refused_in (chosen b o scene at on)
  chosen_grows true o scene at on with_fault obeying = omega arith
  chosen_grows false None scene at on with_fault obeying = obeying
  chosen_grows false (Some fault) scene at on with_fault obeying = with_fault fault

  chosen_alike : (b : Bool) (o : Option WireFault) (scene : Scene) (at : WireFault → Scene) (on on' : Scene) → (refused_in on ≡ 0 → on ≡ on')
      → refused_in (chosen b o scene at on) ≡ 0 → chosen b o scene at on ≡ chosen b o scene at on'
  chosen_alike true o scene at on on' alike none = refl
  chosen_alike false None scene at on on' alike none = alike none
  chosen_alike false (Some fault) scene at on on' alike none = refl

  arrived_grows : (scene : Scene) (a : Arrival) → refused_in scene ≤ refused_in (arrived rules refused scene a)
  arrived_grows scene (ForStation station byte) = station_grows scene station byte (slice_get scene.listeners station)
  arrived_grows scene (ForOperator byte) =
      let used : List ℕ = scene.operator_stream.used ++ byte ∷ [] in
      let begun : Scene = record scene { operator_stream = record { used = used; end = None } } in
      let new : List (ℕ × Command) = enumerate_from (length (commands scene.operator_stream.used) + 1) (completed commands used) in
      chosen_grows (is_some scene.operator_stream.end) (operator_met rules.bytes used) scene
      (λ fault. record scene { operator_stream = record { used = scene.operator_stream.used; end = Some (op_ends.Wire fault) } })
      (fold (obeyed rules refused) begun new) (λ fault. omega arith)
      (never_falls refused_in (obeyed rules refused) (obeyed rules []) obeyed_grows obeyed_alike begun new)

  arrived_alike : (scene : Scene) (a : Arrival) → refused_in (arrived rules refused scene a) ≡ 0 → arrived rules refused scene a ≡ arrived rules [] scene a
  arrived_alike scene (ForStation station byte) none = refl
  arrived_alike scene (ForOperator byte) none =
      let used : List ℕ = scene.operator_stream.used ++ byte ∷ [] in
      let begun : Scene = record scene { operator_stream = record { used = used; end = None } } in
      let new : List (ℕ × Command) = enumerate_from (length (commands scene.operator_stream.used) + 1) (completed commands used) in
      chosen_alike (is_some scene.operator_stream.end) (operator_met rules.bytes used) scene
      (λ fault. record scene { operator_stream = record { used = scene.operator_stream.used; end = Some (op_ends.Wire fault) } })
      (fold (obeyed rules refused) begun new) (fold (obeyed rules []) begun new)
      (folds_alike refused_in (obeyed rules refused) (obeyed rules []) obeyed_grows obeyed_alike begun new) none

-- A run that tells no want of memory is the one without any.
pub unrefused : (rules : Rules) (input refused : List ℕ) → refused_in (scene_of rules input refused) ≡ 0 → scene_of rules input refused ≡ scene_of rules input []
unfolding scene_of
unrefused rules input refused =
    folds_alike refused_in (arrived rules refused) (arrived rules []) (arrived_grows rules refused) (arrived_alike rules refused) (opening rules) (arrivals (input_seen rules.stations rules.bytes input))
