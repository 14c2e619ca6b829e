use Rattle.std.proofs.Common.{◌≡◌, ◌∙◌, ℕ, true, false, List, [], ◌∷◌, ◌++◌, refl, ap}
use Rattle.hk_summary.specs.Ends.{summary_text}
use Rattle.hk_summary.proofs.Told.{text_is, code_is}
use Rattle.hk_summary.proofs.summary.write_summary.Goals as goal

and_nothing : (xs : List ℕ) → xs ≡ xs ++ []
and_nothing [] = refl
and_nothing (x ∷ xs) = ap (λ t. x ∷ t) (and_nothing xs)

pub returns-in-Ok : goal.returns-in-Ok
returns-in-Ok g c = λ run tells. record {
  whole = true;
  status = c.status_of.ensures ∙ code_is c.args.stations.now c.args.operator.now run true tells;
  front = summary_text c.args.stations.now c.args.operator.now;
  missing = [];
  text = text_is c.args.stations.now c.args.operator.now run tells ∙ and_nothing (summary_text c.args.stations.now c.args.operator.now);
  writes = c.in-Ok.ensures.whole.appended;
  all = λ t. (refl, c.in-Ok.ensures.whole.stays);
  proper = λ f. cc;
  failed = λ f. cc;
}

pub returns-in-Err : goal.returns-in-Err
returns-in-Err g c = λ run tells.
    let torn = c.in-Err.ensures.torn in
    record {
      whole = false;
      status = c.status_of-in-Err.ensures ∙ code_is c.args.stations.now c.args.operator.now run false tells;
      front = torn.front.0;
      missing = torn.front.1;
      text = text_is c.args.stations.now c.args.operator.now run tells ∙ torn.front.2;
      writes = torn.front.4;
      all = λ t. cc;
      proper = λ f. torn.front.3;
      failed = λ f. torn.cause;
    }
