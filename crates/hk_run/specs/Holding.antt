-- What a run holds of a scene.
use Rattle.std.specs.Prelude.{◌≡◌, ⊤, ℕ, ◌+◌, List, [], ◌∷◌}
use Rattle.hk_spec_runs.specs.OperatorState.{OperatorState}
use Rattle.hk_spec_settings.specs.Settings.{Rules}
use Rattle.hk_spec_runs.specs.Replay.{Listener, OperatorStream, Scene}
use Rattle.hk_probe.specs.Single.{shelf_of}
use Rattle.hk_station.specs.Hearing.{IsHearing, station_number}
use Rattle.hk_station.specs.declared.station.Station.{Station}
use Rattle.hk_operator.specs.Obeying.{IsObeying}
use Rattle.hk_run.specs.declared.run.Run.{Run}

-- Items of two lists, side by side and numbered from a number on.
unfoldable pub Numbered : {A B : Type 0} → (ℕ → A → B → Type 0) → ℕ → List A → List B → Type 0
Numbered P n [] [] = ⊤
Numbered P n (x ∷ xs) (y ∷ ys) = P n x y × Numbered P (n + 1) xs ys
Numbered P n [] (y ∷ ys) = ⊥
Numbered P n (x ∷ xs) [] = ⊥

-- The stations, numbered from a number on, are these listeners.
abbrev pub AreHearing : Rules → ℕ → List Station → List Listener → Type 0
AreHearing rules n stations listeners = Numbered (λ i station l. IsHearing rules station l × (station_number station ≡ i)) n stations listeners

-- a fact of all listeners that stations are
abbrev pub ForListeners : List Station → (Rules → List Listener → Type 0) → Type 0
ForListeners stations P = (rules : Rules) (listeners : List Listener) → AreHearing rules 0 stations listeners → P rules listeners

-- The run's stations, operator and catalogue are those of a scene.
pub record Holds (rules : Rules) (run : Run) (scene : Scene) : Type 0 where
  pub hears : AreHearing rules 0 run.stations.items scene.listeners
  pub obeys : IsObeying rules run.operator (shelf_of run.catalogue) scene.operator_stream scene.state

-- a fact of each scene that a run holds
abbrev pub ForHeld : Run → (Rules → Scene → Type 0) → Type 0
ForHeld run P = (rules : Rules) (scene : Scene) → Holds rules run scene → P rules scene

abbrev pub with_stream : Scene → OperatorStream → Scene
with_stream scene operator_stream = record scene { operator_stream = operator_stream }

abbrev pub with_state : Scene → OperatorState → Scene
with_state scene state = record scene { state = state }
