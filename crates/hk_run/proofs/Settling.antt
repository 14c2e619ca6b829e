-- The scene after one more byte, and the list of refused commands.
use Rattle.std.proofs.Common.{◌≡◌, ℕ, ◌+◌, ◌≤◌, ◌<◌, List, [], ◌∷◌, ◌++◌, length, refl, sym, ◌∙◌, ap, subst, arith, inl, inr, Bool, false, None, cond, fold}
use Rattle.std.specs.Prelude.{◌&&◌, ◌||◌, not, is_some, slice_get}
use Rattle.std.specs.List.{enumerate_from}
use Rattle.std.proofs.lemmas.Bool.{eq-eqb}
use Rattle.std.proofs.lemmas.Bool.Decides.{eqb_tells}
use Rattle.hk_base.specs.declared.plain.Reason.TheVariants.{NoMemory}
use Rattle.hk_base.specs.declared.plain.What.{What}
use Rattle.hk_base.specs.declared.plain.What.TheVariants.{Refused}
use Rattle.hk_spec_streams.specs.Pieces.{first_that_holds, is_one_of, pieces_within}
use Rattle.hk_spec_streams.specs.Operator.{Command, commands}
use Rattle.hk_spec_streams.specs.Records.{ForStation, ForOperator, arrivals}
use Rattle.hk_spec_lines.specs.Lines.{Replied}
use Rattle.hk_spec_runs.specs.OperatorState.{refusals, answer, after, IsReply}
use Rattle.hk_spec_settings.specs.Settings.{Rules}
use Rattle.hk_spec_runs.specs.Replay.{Scene, OperatorStream, arrived, obeyed}
use Rattle.hk_operator.specs.Obeying.{stream_after, new_commands}
use Rattle.hk_operator.proofs.Joining.{for_operator_is}
use Rattle.hk_run.specs.Course.{scene_after, heard_by}
use Rattle.hk_run.specs.Holding.{with_stream}
use Rattle.hk_run.specs.Playing.{Agree, IsSettled}
use Rattle.hk_run.proofs.Hearing.{same_stream}
use Rattle.hk_run.proofs.Obeying.{counts}

-- nothing has come
pub none_settled : (rules : Rules) → IsSettled rules [] []
unfolding arrivals pieces_within
none_settled rules = record { none_ahead = λ m ahead. refl; same = λ others agree. refl }

-- bytes of a station's stream touch neither the operator nor the list of refused commands
same_streams : (rules : Rules) (refused : List ℕ) (k : ℕ) (bytes : List ℕ) (scene : Scene) → (heard_by rules refused scene k bytes).operator_stream ≡ scene.operator_stream
same_streams rules refused k [] scene = refl
same_streams rules refused k (b ∷ bytes) scene =
    same_streams rules refused k bytes (arrived rules refused scene (ForStation k b)) ∙ same_stream rules scene k b (slice_get scene.listeners k)

by_any : (rules : Rules) (some others : List ℕ) (k : ℕ) (bytes : List ℕ) (scene : Scene) → heard_by rules some scene k bytes ≡ heard_by rules others scene k bytes
by_any rules some others k [] scene = refl
by_any rules some others k (b ∷ bytes) scene = by_any rules some others k bytes (arrived rules some scene (ForStation k b))

-- the number of commands so far
abbrev pub so_far : Scene → ℕ
so_far scene = length (commands scene.operator_stream.used)

module _ (rules : Rules) (refused text : List ℕ) (settled : IsSettled rules refused text) where
  -- where the next scene is the same for all lists that refuse the same of the commands that came by then
  settles : (longer : List ℕ) (next : Scene) (r : List ℕ) → ((others : List ℕ) → Agree (so_far next) others r → scene_after rules others longer ≡ next)
      → ((m : ℕ) → so_far next < m → is_one_of r m ≡ false) → IsSettled rules r longer
  settles longer next r same none =
      let own : scene_after rules r longer ≡ next = same r (λ m within. refl) in
      record {
        none_ahead = subst (λ (s : Scene). (m : ℕ) → so_far s < m → is_one_of r m ≡ false) (sym own) none;
        same = subst (λ (s : Scene). (others : List ℕ) → Agree (so_far s) others r → scene_after rules others longer ≡ s) (sym own) same;
      }

  -- a byte of a head
  pub head_settled : (longer : List ℕ) → ((r : List ℕ) → scene_after rules r longer ≡ scene_after rules r text) → IsSettled rules refused longer
  head_settled longer is = settles longer (scene_after rules refused text) refused (λ others agree. is others ∙ settled.same others agree) settled.none_ahead

  -- a station's byte
  pub station_settled : (longer : List ℕ) (k c : ℕ) → ((r : List ℕ) → scene_after rules r longer ≡ arrived rules r (scene_after rules r text) (ForStation k c)) → IsSettled rules refused longer
  station_settled longer k c is =
      let next : Scene = arrived rules refused (scene_after rules refused text) (ForStation k c) in
      let operator_stream : next.operator_stream ≡ (scene_after rules refused text).operator_stream = same_stream rules (scene_after rules refused text) k c (slice_get (scene_after rules refused text).listeners k) in
      settles longer next refused
      (λ others agree. is others ∙ ap (λ (s : Scene). arrived rules refused s (ForStation k c))
      (settled.same others (subst (λ (operator_stream : OperatorStream). Agree (length (commands operator_stream.used)) others refused) operator_stream agree)))
      (subst (λ (operator_stream : OperatorStream). (m : ℕ) → length (commands operator_stream.used) < m → is_one_of refused m ≡ false) (sym operator_stream) settled.none_ahead)

  -- bytes of a station's stream
  pub stretch_settled : (longer : List ℕ) (k : ℕ) (bytes : List ℕ) → ((r : List ℕ) → scene_after rules r longer ≡ heard_by rules r (scene_after rules r text) k bytes)
      → IsSettled rules refused longer
  stretch_settled longer k bytes is =
      let next : Scene = heard_by rules refused (scene_after rules refused text) k bytes in
      let operator_stream : next.operator_stream ≡ (scene_after rules refused text).operator_stream = same_streams rules refused k bytes (scene_after rules refused text) in
      settles longer next refused
      (λ others agree. is others ∙ by_any rules others refused k bytes (scene_after rules others text)
      ∙ ap (λ (s : Scene). heard_by rules refused s k bytes)
      (settled.same others (subst (λ (operator_stream : OperatorStream). Agree (length (commands operator_stream.used)) others refused) operator_stream agree)))
      (subst (λ (operator_stream : OperatorStream). (m : ℕ) → length (commands operator_stream.used) < m → is_one_of refused m ≡ false) (sym operator_stream) settled.none_ahead)

  module _ (longer : List ℕ) (c : ℕ) (is : (r : List ℕ) → scene_after rules r longer ≡ arrived rules r (scene_after rules r text) (ForOperator c)) where
    -- a byte that ends no command
    quiet_scene : (r : List ℕ) → new_commands rules (scene_after rules refused text).operator_stream c ≡ []
        → arrived rules r (scene_after rules refused text) (ForOperator c) ≡ with_stream (scene_after rules refused text) (stream_after rules (scene_after rules refused text).operator_stream c)
    quiet_scene r none =
        for_operator_is rules r (scene_after rules refused text) c
        ∙ ap (λ cs. fold (obeyed rules r) (with_stream (scene_after rules refused text) (stream_after rules (scene_after rules refused text).operator_stream c)) (enumerate_from (so_far (scene_after rules refused text) + 1) cs)) none

    pub quiet_is : new_commands rules (scene_after rules refused text).operator_stream c ≡ []
        → scene_after rules refused longer ≡ with_stream (scene_after rules refused text) (stream_after rules (scene_after rules refused text).operator_stream c)
    quiet_is none = is refused ∙ quiet_scene refused none

    pub quiet_settled : new_commands rules (scene_after rules refused text).operator_stream c ≡ [] → IsSettled rules refused longer
    quiet_settled none =
        let sum : so_far (scene_after rules refused text) + length (new_commands rules (scene_after rules refused text).operator_stream c) ≡ length (commands (stream_after rules (scene_after rules refused text).operator_stream c).used) =
        counts rules (scene_after rules refused text).operator_stream c in
        settles longer (with_stream (scene_after rules refused text) (stream_after rules (scene_after rules refused text).operator_stream c)) refused
        (λ others agree. is others ∙ ap (λ (s : Scene). arrived rules others s (ForOperator c)) (settled.same others (λ m within. agree m (omega (arith, within, sum)))) ∙ quiet_scene others none)
        (λ m ahead. settled.none_ahead m (omega (arith, ahead, sum)))

    -- a byte that ends a command
    module _ (command : Command) (one : new_commands rules (scene_after rules refused text).operator_stream c ≡ command ∷ []) where
      -- the reply, by whether the command is refused for memory
      reply_by : Bool → What
      reply_by t = cond (t && not (is_some (first_that_holds (refusals rules (scene_after rules refused text).state command)))) (Refused NoMemory) (answer rules (scene_after rules refused text).state command)

      after_reply : What → Scene
      after_reply reply = record (scene_after rules refused text) {
        operator_stream = stream_after rules (scene_after rules refused text).operator_stream c;
        state = after rules (scene_after rules refused text).state command reply;
        printed = (scene_after rules refused text).printed ++ Replied (so_far (scene_after rules refused text) + 1) reply ∷ [];
      }

      command_scene : (r : List ℕ) (reply : What) → reply_by (is_one_of r (so_far (scene_after rules refused text) + 1)) ≡ reply
          → arrived rules r (scene_after rules refused text) (ForOperator c) ≡ after_reply reply
      unfolding after_reply reply_by
      command_scene r reply replies =
          for_operator_is rules r (scene_after rules refused text) c
          ∙ ap (λ cs. fold (obeyed rules r) (with_stream (scene_after rules refused text) (stream_after rules (scene_after rules refused text).operator_stream c)) (enumerate_from (so_far (scene_after rules refused text) + 1) cs)) one
          ∙ ap after_reply replies

      one_more : so_far (scene_after rules refused text) + 1 ≡ length (commands (stream_after rules (scene_after rules refused text).operator_stream c).used)
      one_more = ap (λ cs. so_far (scene_after rules refused text) + length cs) (sym one) ∙ counts rules (scene_after rules refused text).operator_stream c

      -- A list that refuses this command where the reply says so, and else what the list did.
      record Choice (reply : What) (r : List ℕ) : Type 0 where
        replies : reply_by (is_one_of r (so_far (scene_after rules refused text) + 1)) ≡ reply
        below : (m : ℕ) → m ≤ so_far (scene_after rules refused text) → is_one_of r m ≡ is_one_of refused m
        above : (m : ℕ) → so_far (scene_after rules refused text) + 1 < m → is_one_of r m ≡ false

      answered : (reply : What) → reply ≡ answer rules (scene_after rules refused text).state command → Choice reply refused
      unfolding reply_by
      answered reply is_answer = record {
        replies = ap (λ t. cond (t && not (is_some (first_that_holds (refusals rules (scene_after rules refused text).state command)))) (Refused NoMemory) (answer rules (scene_after rules refused text).state command))
            (settled.none_ahead (so_far (scene_after rules refused text) + 1) (omega arith)) ∙ sym is_answer;
        below = λ m within. refl;
        above = λ m ahead. settled.none_ahead m (omega (arith, ahead));
      }

      other_number : (x m : ℕ) (xs : List ℕ) → (x ≡ m → ⊥) → is_one_of (x ∷ xs) m ≡ is_one_of xs m
      other_number x m xs isnt = elim (eqb_tells x m) [
        | inl same ↦ absurd (isnt same.1)
        | inr other ↦ ap (λ t. t || is_one_of xs m) other.0
      ]

      wanting : (reply : What) → reply ≡ Refused NoMemory → first_that_holds (refusals rules (scene_after rules refused text).state command) ≡ None
          → Choice reply ((so_far (scene_after rules refused text) + 1) ∷ refused)
      unfolding reply_by
      wanting reply is_wanting none =
          let k : ℕ = so_far (scene_after rules refused text) + 1 in
          record {
            replies = ap (λ t. cond ((t || is_one_of refused k) && not (is_some (first_that_holds (refusals rules (scene_after rules refused text).state command)))) (Refused NoMemory) (answer rules (scene_after rules refused text).state command)) (eq-eqb k k refl)
                ∙ ap (λ o. cond (not (is_some o)) (Refused NoMemory) (answer rules (scene_after rules refused text).state command)) none ∙ sym is_wanting;
            below = λ m within. other_number k m refused (λ same. omega (arith, same, within));
            above = λ m ahead. other_number k m refused (λ same. omega (arith, same, ahead)) ∙ settled.none_ahead m (omega (arith, ahead));
          }

      chosen : (reply : What) → IsReply rules (scene_after rules refused text).state command reply → (r : List ℕ) × Choice reply r
      chosen reply (inl is_answer) = (refused, answered reply is_answer)
      chosen reply (inr want) = ((so_far (scene_after rules refused text) + 1) ∷ refused, wanting reply want.0 want.1)

      settled_by : (reply : What) (r : List ℕ) → Choice reply r → IsSettled rules r longer × (scene_after rules r longer ≡ after_reply reply)
      unfolding after_reply
      settled_by reply r choice =
          let same : (others : List ℕ) → Agree (so_far (after_reply reply)) others r → scene_after rules others longer ≡ after_reply reply = λ others agree.
          is others ∙ ap (λ (s : Scene). arrived rules others s (ForOperator c))
          (settled.same others (λ m within. agree m (omega (arith, within, one_more)) ∙ choice.below m within))
          ∙ command_scene others reply (ap reply_by (agree (so_far (scene_after rules refused text) + 1) (omega (arith, one_more))) ∙ choice.replies) in (
            settles longer (after_reply reply) r same (λ m ahead. choice.above m (omega (arith, ahead, one_more))),
            same r (λ m within. refl),
          )

      -- the scene after the reply, for some list of refused commands
      pub reply_settled : (reply : What) → IsReply rules (scene_after rules refused text).state command reply → (r : List ℕ) × IsSettled rules r longer
          × (scene_after rules r longer ≡ record (scene_after rules refused text) {
            operator_stream = stream_after rules (scene_after rules refused text).operator_stream c;
            state = after rules (scene_after rules refused text).state command reply;
            printed = (scene_after rules refused text).printed ++ Replied (so_far (scene_after rules refused text) + 1) reply ∷ [];
          })
      unfolding after_reply
      reply_settled reply is_reply =
          let choice = chosen reply is_reply in
          let done = settled_by reply choice.0 choice.1 in
          (choice.0, done.0, done.1)
