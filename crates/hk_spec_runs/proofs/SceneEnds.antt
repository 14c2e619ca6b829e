-- In each scene of a run there is a listener for each station, and an end that is there already is none in order.
use Rattle.std.proofs.Common.{◌≡◌, ℕ, zero, suc, ◌++◌, Bool, true, false, List, [], ◌∷◌, length, ap, subst, ◌∙◌, refl, length-set, Option, Some, None, fold}
use Rattle.std.proofs.lemmas.List.{length-replicate}
use Rattle.std.specs.Prelude.{slice_get, slice_set, unwrap_or, option_map, replicate, is_some, if◌then◌else◌, ◌+◌}
use Rattle.std.specs.Option.{option_map_or}
use Rattle.std.specs.List.{AllByRecursion, enumerate_from}
use Rattle.hk_base.specs.declared.plain.WireFault.{WireFault}
use Rattle.hk_base.specs.declared.plain.End.TheVariants as ends
use Rattle.hk_base.specs.declared.plain.OpEnd.TheVariants as op_ends
use Rattle.hk_spec_streams.specs.Pieces.{completed}
use Rattle.hk_spec_streams.specs.Station.{station_met}
use Rattle.hk_spec_streams.specs.Operator.{Command, operator_met, commands}
use Rattle.hk_spec_streams.specs.Records.{Arrival, ForStation, ForOperator, arrivals, input_seen}
use Rattle.hk_spec_settings.specs.Settings.{Rules}
use Rattle.hk_spec_runs.specs.Replay.{Listener, OperatorStream, Scene, heard, obeyed, for_station, for_operator, arrived, opening, scene_of}

-- a listener that has no end yet, or one that is not in order
abbrev pub EndsOtherwise : Listener → Type 0
EndsOtherwise l = l.end ≡ Some ends.Ended → ⊥

-- what each scene of a run keeps
pub record EndsTell (rules : Rules) (scene : Scene) : Type 0 where
  pub as_many : length scene.listeners ≡ rules.stations
  pub listeners : AllByRecursion EndsOtherwise scene.listeners
  pub operator_stream : scene.operator_stream.end ≡ Some op_ends.Ended → ⊥

pub fold_keeps : {A B : Type 0} (P : B → Type 0) (f : B → A → B) → ((b : B) (x : A) → P b → P (f b x)) → (b : B) (xs : List A) → P b → P (fold f b xs)
fold_keeps P f step b [] p = p
fold_keeps P f step b (x ∷ xs) p = fold_keeps P f step (f b x) xs (step b x p)

module _ {A : Type 0} (P : A → Type 0) where
  all_alike : (n : ℕ) (x : A) → P x → AllByRecursion P (replicate n x)
  all_alike zero x p = tt
  all_alike (suc n) x p = (p, all_alike n x p)

  one_of : (xs : List A) (i : ℕ) (x : A) → AllByRecursion P xs → slice_get xs i ≡ Some x → P x
  one_of [] i x all is = let none : None ≡ Some x = is in cc
  one_of (y ∷ xs) zero x all is = subst P (ap (λ o. unwrap_or o y) is) all.0
  one_of (y ∷ xs) (suc i) x all is = one_of xs i x all.1 is

  one_exchanged : (xs : List A) (i : ℕ) (x : A) → AllByRecursion P xs → P x → AllByRecursion P (slice_set xs i x)
  one_exchanged [] i x all p = tt
  one_exchanged (y ∷ xs) zero x all p = (p, all.1)
  one_exchanged (y ∷ xs) (suc i) x all p = (all.0, one_exchanged xs i x all.1 p)

  one_or_other : (b : Bool) (x y : A) → P x → P y → P (if b then x else y)
  one_or_other true x y p q = p
  one_or_other false x y p q = q

by_fault : (l : Listener) (met : Option WireFault) (used : List ℕ) (version v : ℕ) (asked : Option ℕ)
    → EndsOtherwise (option_map_or (λ fault. record l { end = Some (ends.Wire fault) }) met (record { used = used; version = version; end = option_map (λ a. ends.FenceAhead a v) asked }))
by_fault l (Some fault) used version v asked = λ is. cc
by_fault l None used version v (Some a) = λ is. cc
by_fault l None used version v None = λ is. cc

module _ (rules : Rules) where
  heard_ends : (v : ℕ) (l : Listener) (byte : ℕ) → EndsOtherwise (heard rules v l byte)
  heard_ends v l byte = by_fault l (station_met rules.bytes (l.used ++ byte ∷ [])) _ _ v _

  station_keeps : (scene : Scene) (station byte : ℕ) (o : Option Listener) → slice_get scene.listeners station ≡ o → EndsTell rules scene → EndsTell rules (for_station rules scene station byte o)
  station_keeps scene station byte None is kept = kept
  station_keeps scene station byte (Some l) is kept =
      let v : ℕ = length scene.state.journal in
      let now : Listener = if is_some l.end then l else heard rules v l byte in
      record {
        as_many = length-set scene.listeners station now ∙ kept.as_many;
        listeners = one_exchanged EndsOtherwise scene.listeners station now kept.listeners
            (one_or_other EndsOtherwise (is_some l.end) l (heard rules v l byte) (one_of EndsOtherwise scene.listeners station l kept.listeners is) (heard_ends v l byte));
        operator_stream = kept.operator_stream;
      }

  obeyed_keeps : (refused : List ℕ) (scene : Scene) (c : ℕ × Command) → EndsTell rules scene → EndsTell rules (obeyed rules refused scene c)
  obeyed_keeps refused scene c kept = record { as_many = kept.as_many; listeners = kept.listeners; operator_stream = kept.operator_stream }

  with_calls : (scene : Scene) (operator_stream : OperatorStream) → EndsTell rules scene → (operator_stream.end ≡ Some op_ends.Ended → ⊥) → EndsTell rules (record scene { operator_stream = operator_stream })
  with_calls scene operator_stream kept other = record { as_many = kept.as_many; listeners = kept.listeners; operator_stream = other }

  by_operator_fault : (scene now : Scene) (met : Option WireFault) → EndsTell rules scene → EndsTell rules now
      → EndsTell rules (option_map_or (λ fault. record scene { operator_stream = record { used = scene.operator_stream.used; end = Some (op_ends.Wire fault) } }) met now)
  by_operator_fault scene now None kept later = later
  by_operator_fault scene now (Some fault) kept later = with_calls scene (record { used = scene.operator_stream.used; end = Some (op_ends.Wire fault) }) kept (λ is. cc)

  operator_keeps : (refused : List ℕ) (scene : Scene) (byte : ℕ) → EndsTell rules scene → EndsTell rules (for_operator rules refused scene byte)
  operator_keeps refused scene byte kept =
      let used : List ℕ = scene.operator_stream.used ++ byte ∷ [] in
      let begun : Scene = record scene { operator_stream = record { used = used; end = None } } in
      one_or_other (EndsTell rules) (is_some scene.operator_stream.end) scene _ kept
      (by_operator_fault scene _ (operator_met rules.bytes used) kept
      (fold_keeps (EndsTell rules) (obeyed rules refused) (obeyed_keeps refused) begun (enumerate_from (length (commands scene.operator_stream.used) + 1) (completed commands used))
      (with_calls scene (record { used = used; end = None }) kept (λ is. cc))))

  arrived_keeps : (refused : List ℕ) (scene : Scene) (a : Arrival) → EndsTell rules scene → EndsTell rules (arrived rules refused scene a)
  arrived_keeps refused scene (ForStation station byte) kept = station_keeps scene station byte (slice_get scene.listeners station) refl kept
  arrived_keeps refused scene (ForOperator byte) kept = operator_keeps refused scene byte kept

  opening_kept : EndsTell rules (opening rules)
  opening_kept = record {
    as_many = length-replicate rules.stations (record { used = []; version = 0; end = None });
    listeners = all_alike EndsOtherwise rules.stations (record { used = []; version = 0; end = None }) (λ is. cc);
    operator_stream = λ is. cc;
  }

  -- so it is in each scene of a run
  pub scene_kept : (input refused : List ℕ) → EndsTell rules (scene_of rules input refused)
  unfolding scene_of
  scene_kept input refused =
      fold_keeps (EndsTell rules) (arrived rules refused) (arrived_keeps refused) (opening rules) (arrivals (input_seen rules.stations rules.bytes input)) opening_kept
