-- A byte of the operator's stream.
use Rattle.std.proofs.Common.{◌≡◌, ℕ, ◌+◌, List, [], ◌∷◌, length, refl, sym, ◌∙◌, ap, subst, length-append, inl, inr, ◌⊎◌, Bool, true, false, Ok, Err, cond}
use Rattle.std.specs.Prelude.{nat_le}
use Rattle.hk_base.specs.declared.plain.OpEnd.{OpEnd}
use Rattle.hk_base.specs.declared.plain.Reason.TheVariants.{VersionsFull}
use Rattle.hk_base.specs.declared.plain.Reply.{Reply as OpReply}
use Rattle.hk_base.specs.declared.plain.What.TheVariants.{Published, Refused}
use Rattle.hk_spec_streams.specs.Operator.{Command, Publish, commands}
use Rattle.hk_spec_runs.specs.OperatorState.{OperatorState, after, IsReply}
use Rattle.hk_spec_settings.specs.Settings.{Rules}
use Rattle.hk_spec_runs.specs.Replay.{OperatorStream}
use Rattle.hk_catalogue.specs.declared.refused.Refused.{Refused as Misfit}
use Rattle.hk_catalogue.specs.declared.refused.Refused.TheVariants as misfits
use Rattle.hk_probe.specs.Single.{Single, shelf_of, publish_answer, after_publish}
use Rattle.hk_operator.specs.Obeying.{IsAnswered, stream_after, new_commands}
use Rattle.hk_operator.specs.Answering.{HasPublished, Publishes, HasNoVersion}
use Rattle.hk_operator.specs.declared.done.Done.{Done}
use Rattle.hk_operator.specs.declared.done.Done.TheVariants as dones
use Rattle.hk_operator.proofs.Answering.{commands_grow}

-- What is answered, by what was done.
module _ (rules : Rules) (state : OperatorState) (number : ℕ) (Leaves : OperatorState → Type 0) where
  quiet : (cs : List Command) → IsAnswered rules state number cs dones.More Leaves → (cs ≡ []) × Leaves state
  quiet [] is = (refl, is)
  quiet (command ∷ more) is = absurd is

  over : (cs : List Command) (end : OpEnd) → IsAnswered rules state number cs (dones.Over end) Leaves → (cs ≡ []) × Leaves state
  over [] end is = (refl, is)
  over (command ∷ more) end is = absurd is

  -- a byte that ends no command, or after which the stream is over
  pub unanswered : (cs : List Command) (done : Done) → (done ≡ dones.More) ⊎ ((end : OpEnd) × (done ≡ dones.Over end)) → IsAnswered rules state number cs done Leaves → (cs ≡ []) × Leaves state
  unanswered cs done (inl more) is = quiet cs (subst (λ (d : Done). IsAnswered rules state number cs d Leaves) more is)
  unanswered cs done (inr ended) is = over cs ended.0 (subst (λ (d : Done). IsAnswered rules state number cs d Leaves) ended.1 is)

  pub replied : (cs : List Command) (reply : OpReply) → IsAnswered rules state number cs (dones.Reply reply) Leaves
      → (command : Command) × (cs ≡ command ∷ []) × (reply.number ≡ number) × IsReply rules state command reply.what × Leaves (after rules state command reply.what)
  replied [] reply is = absurd is
  replied (command ∷ more) reply is = (command, ap (λ cs. command ∷ cs) is.0, is.2, is.3, is.4)

  pub handed : (cs : List Command) (n : ℕ) → IsAnswered rules state number cs (dones.Publish n) Leaves → (cs ≡ Publish ∷ []) × (n ≡ number) × Leaves state
  handed [] n is = absurd is
  handed (command ∷ more) n is = (ap (λ cs. command ∷ cs) is.0 ∙ ap (λ c. c ∷ []) is.1, is.2, is.3)

-- What the catalogue did for a publish.
module _ (alone : Single) where
  published_by : (full : Bool) (v : ℕ) (now : Single) → nat_le alone.limits.versions alone.version ≡ full
      → Ok v ≡ cond full (Err (misfits.VersionsFull alone.limits.versions)) (Ok (alone.version + 1)) → now ≡ after_publish alone
      → HasPublished (shelf_of alone) (shelf_of now) (Published v)
  published_by true v now full is same = absurd (cc)
  published_by false v now left is same =
      let number : v ≡ alone.version + 1 = cc in
      subst (λ (s : Single). HasPublished (shelf_of alone) (shelf_of s) (Published v)) (sym same)
      (Publishes left (record { base = refl; present = refl; staged = refl; limits = refl }) (ap (λ n. Published n) number))

  pub published : (v : ℕ) (now : Single) → Ok v ≡ publish_answer alone → now ≡ after_publish alone → HasPublished (shelf_of alone) (shelf_of now) (Published v)
  published v now is same = published_by (nat_le alone.limits.versions alone.version) v now refl is same

  refused_by : (full : Bool) (misfit : Misfit) (now : Single) → nat_le alone.limits.versions alone.version ≡ full
      → Err misfit ≡ cond full (Err (misfits.VersionsFull alone.limits.versions)) (Ok (alone.version + 1)) → now ≡ alone
      → HasPublished (shelf_of alone) (shelf_of now) (Refused VersionsFull)
  refused_by true misfit now full is same = HasNoVersion full (ap shelf_of same) refl
  refused_by false misfit now left is same = absurd (cc)

  pub refused : (misfit : Misfit) (now : Single) → Err misfit ≡ publish_answer alone → now ≡ alone → HasPublished (shelf_of alone) (shelf_of now) (Refused VersionsFull)
  refused misfit now is same = refused_by (nat_le alone.limits.versions alone.version) misfit now refl is same

-- How many commands there are after a byte.
pub counts : (rules : Rules) (operator_stream : OperatorStream) (b : ℕ)
    → length (commands operator_stream.used) + length (new_commands rules operator_stream b) ≡ length (commands (stream_after rules operator_stream b).used)
counts rules operator_stream b = sym (length-append (commands operator_stream.used) (new_commands rules operator_stream b)) ∙ sym (ap length (commands_grow rules operator_stream b))
