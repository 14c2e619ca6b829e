-- What a byte of the input does to the scene, by what the reader tells of it.
use Rattle.std.proofs.Common.{◌≡◌, ℕ, List, [], ◌∷◌, ◌++◌, length, refl, sym, ◌∙◌, ap, Bool, true, false, Option, Some, None, cond, fold}
use Rattle.std.specs.Prelude.{nat_le, slice_get}
use Rattle.std.specs.Option.{option_map_or}
use Rattle.std.proofs.lemmas.List.Sums.{fold-append}
use Rattle.hk_base.specs.declared.plain.Trouble.{Trouble}
use Rattle.hk_spec_streams.specs.Records.{Arrival, ForStation, ForOperator, arrivals, arrival_after, arrival_in, head_size, input_met, open_bytes}
use Rattle.hk_spec_streams.proofs.Completed.{completed-more}
use Rattle.hk_spec_streams.proofs.GrowingRecords.{arrivals-append}
use Rattle.hk_spec_settings.specs.Settings.{Rules}
use Rattle.hk_spec_runs.specs.Replay.{opening, arrived}
use Rattle.hk_records.specs.Part.{told}
use Rattle.hk_records.specs.Reader.{came_at}
use Rattle.hk_records.specs.declared.reader.Came.{Came}
use Rattle.hk_records.specs.declared.reader.Came.TheVariants as came
use Rattle.hk_run.specs.Course.{scene_after}

-- what a byte is, by its fault and by whether it arrives
came_of : Arrival → Option Trouble → Bool → Came
came_of a met t = option_map_or (λ trouble. came.Bad trouble) met (option_map_or told (slice_get (cond t (a ∷ []) []) 0) came.Head)

if_head : (a : Arrival) (met : Option Trouble) (t : Bool) → came_of a met t ≡ came.Head → (met ≡ None) × (cond t (a ∷ []) [] ≡ [])
unfolding came_of
if_head a (Some other) t is = cc
if_head (ForStation k c) None true is = cc
if_head (ForOperator c) None true is = cc
if_head a None false is = (refl, refl)

if_station : (a : Arrival) (met : Option Trouble) (t : Bool) (k c : ℕ) → came_of a met t ≡ came.Station k c → (met ≡ None) × (cond t (a ∷ []) [] ≡ ForStation k c ∷ [])
unfolding came_of
if_station a (Some other) t k c is = cc
if_station (ForStation l d) None true k c is = (refl, cc)
if_station (ForOperator d) None true k c is = cc
if_station a None false k c is = cc

if_operator : (a : Arrival) (met : Option Trouble) (t : Bool) (c : ℕ) → came_of a met t ≡ came.Operator c → (met ≡ None) × (cond t (a ∷ []) [] ≡ ForOperator c ∷ [])
unfolding came_of
if_operator a (Some other) t c is = cc
if_operator (ForStation l d) None true c is = cc
if_operator (ForOperator d) None true c is = (refl, cc)
if_operator a None false c is = cc

if_bad : (a : Arrival) (met : Option Trouble) (t : Bool) (trouble : Trouble) → came_of a met t ≡ came.Bad trouble → met ≡ Some trouble
unfolding came_of
if_bad a (Some other) t trouble is = cc
if_bad (ForStation k c) None true trouble is = cc
if_bad (ForOperator c) None true trouble is = cc
if_bad a None false trouble is = cc

pub scene_after-append : (rules : Rules) (refused text : List ℕ) (b : ℕ)
    → scene_after rules refused (text ++ b ∷ []) ≡ fold (arrived rules refused) (scene_after rules refused text) (arrival_after (open_bytes text) b)
scene_after-append rules refused text b =
    ap (fold (arrived rules refused) (opening rules)) (arrivals-append text b)
    ∙ fold-append (arrived rules refused) (opening rules) (arrivals text) (arrival_after (open_bytes text) b)

module _ (rules : Rules) (text : List ℕ) (b : ℕ) where
  came_is : came_at rules.stations rules.bytes (text ++ b ∷ [])
      ≡ came_of (arrival_in (open_bytes text) b) (input_met rules.stations rules.bytes (text ++ b ∷ [])) (nat_le (head_size (open_bytes text)) (length (open_bytes text)))
  unfolding came_of
  came_is = ap (λ xs. option_map_or (λ trouble. came.Bad trouble) (input_met rules.stations rules.bytes (text ++ b ∷ [])) (option_map_or told (slice_get xs 0) came.Head))
      (completed-more arrivals text b (arrival_after (open_bytes text) b) (arrivals-append text b))

  scene_is : (refused : List ℕ) (news : List Arrival) → arrival_after (open_bytes text) b ≡ news → scene_after rules refused (text ++ b ∷ []) ≡ fold (arrived rules refused) (scene_after rules refused text) news
  scene_is refused news is = scene_after-append rules refused text b ∙ ap (fold (arrived rules refused) (scene_after rules refused text)) is

  pub came_head : came_at rules.stations rules.bytes (text ++ b ∷ []) ≡ came.Head
      → (input_met rules.stations rules.bytes (text ++ b ∷ []) ≡ None) × ((refused : List ℕ) → scene_after rules refused (text ++ b ∷ []) ≡ scene_after rules refused text)
  came_head is =
      let found = if_head _ _ _ (sym came_is ∙ is) in
      (found.0, λ refused. scene_is refused [] found.1)

  pub came_station : (k c : ℕ) → came_at rules.stations rules.bytes (text ++ b ∷ []) ≡ came.Station k c
      → (input_met rules.stations rules.bytes (text ++ b ∷ []) ≡ None)
      × ((refused : List ℕ) → scene_after rules refused (text ++ b ∷ []) ≡ arrived rules refused (scene_after rules refused text) (ForStation k c))
  came_station k c is =
      let found = if_station _ _ _ k c (sym came_is ∙ is) in
      (found.0, λ refused. scene_is refused (ForStation k c ∷ []) found.1)

  pub came_operator : (c : ℕ) → came_at rules.stations rules.bytes (text ++ b ∷ []) ≡ came.Operator c
      → (input_met rules.stations rules.bytes (text ++ b ∷ []) ≡ None)
      × ((refused : List ℕ) → scene_after rules refused (text ++ b ∷ []) ≡ arrived rules refused (scene_after rules refused text) (ForOperator c))
  came_operator c is =
      let found = if_operator _ _ _ c (sym came_is ∙ is) in
      (found.0, λ refused. scene_is refused (ForOperator c ∷ []) found.1)

  pub came_bad : (trouble : Trouble) → came_at rules.stations rules.bytes (text ++ b ∷ []) ≡ came.Bad trouble → input_met rules.stations rules.bytes (text ++ b ∷ []) ≡ Some trouble
  came_bad trouble is = if_bad _ _ _ trouble (sym came_is ∙ is)
