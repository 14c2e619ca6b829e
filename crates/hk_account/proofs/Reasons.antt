-- The cause of a station's end.
use Rattle.std.proofs.Common.{◌≡◌, ◌≤◌, ℕ, Option, Some, None, List, All, refl, sym, ◌∙◌, ap, subst, inl, inr, length}
use Rattle.std.specs.Prelude.{unwrap_or, if◌then◌else◌}
use Rattle.std.specs.Option.{option_map_or, option_or}
use Rattle.hk_base.specs.Devices.{IsNothing}
use Rattle.hk_base.specs.declared.plain.WireFault.{WireFault}
use Rattle.hk_base.specs.declared.plain.WireFault.TheVariants.{Cut}
use Rattle.hk_base.specs.declared.plain.End.{End}
use Rattle.hk_base.specs.declared.plain.End.TheVariants as ends
use Rattle.hk_spec_streams.specs.Grammar.{ends_at_start}
use Rattle.hk_spec_streams.specs.Station.{station_grammar, fences, station_fault, station_wrong}
use Rattle.hk_spec_matching.specs.Catalogue.{Songs, Rise}
use Rattle.hk_spec_settings.specs.Settings.{Rules}
use Rattle.hk_spec_runs.specs.Replay.{Listener}
use Rattle.hk_spec_runs.specs.Listening.{Instant, bytes_in, unheard, after, looks_over, UsesOf}
use Rattle.hk_outside.specs.Doors.{Pair, HeldGate}
use Rattle.hk_spec_monitor.specs.Causes.{CauseOf}
use Rattle.hk_account.specs.Account.{heard_of}
use Rattle.hk_account.specs.Reasons.{HasReason, CausesSinceStart}
use Rattle.hk_account.proofs.Course.{Course, IsOwn, all_met, course}
use Rattle.hk_account.proofs.Accounts.{is_ahead_last, last_is}
use Rattle.hk_account.proofs.Sums.{sum}

module _ (rules : Rules) (to : ℕ) (instants : List Instant) (past : ℕ → Option Songs) (old new : Pair) (gate gate' : HeldGate)
    (rise : Rise 0 (looks_over rules unheard instants) to) (uses : UsesOf rules (after rules unheard instants) (bytes_in instants)) where
  abbrev l : Listener
  l = after rules unheard instants

  came : Course rules l (bytes_in instants)
  came = course rules instants to rise

  -- a fault that is met is what is wrong with all bytes
  wrong_by : (fault : WireFault) → station_fault rules.bytes (bytes_in instants) ≡ Some fault → station_wrong rules.bytes (bytes_in instants) ≡ Some fault
  wrong_by fault is = ap (λ o. option_or o (if ends_at_start station_grammar (bytes_in instants) then None else Some (Cut (length (bytes_in instants))))) is

  -- an end of the station's own
  own_cause : (end : End) → l.end ≡ Some end → IsOwn end → CauseOf rules old new gate gate' (heard_of rules instants past end) end
  own_cause (ends.Wire fault) is own =
      let met : station_fault rules.bytes (bytes_in instants) ≡ Some fault = came.fails fault is in
      (wrong_by fault met, λ none. absurd (let no : Some fault ≡ None = sym met ∙ none in cc))
  own_cause (ends.FenceAhead asked found) is own = is_ahead_last rules instants past asked found came uses is
  own_cause ends.Ended is own = absurd own
  own_cause ends.ReadFault is own = absurd own
  own_cause ends.SinkFault is own = absurd own
  own_cause ends.GateFault is own = absurd own

  -- an end where all bytes were taken
  at_end : (o : Option WireFault) → l.end ≡ None → station_wrong rules.bytes l.used ≡ o → IsNothing new.gives.bytes
      → CauseOf rules old new gate gate' (heard_of rules instants past (option_map_or (λ fault. ends.Wire fault) o ends.Ended)) (option_map_or (λ fault. ends.Wire fault) o ends.Ended)
  at_end (Some fault) going is nothing = (
    ap (station_wrong rules.bytes) (sym (came.going going).0) ∙ is,
    λ none. nothing,
  )
  at_end None going is nothing = record {
    nothing_left = nothing;
    right = ap (station_wrong rules.bytes) (sym (came.going going).0) ∙ is;
    met = subst (λ v. All (λ fence. fence.asked ≤ v) (fences (bytes_in instants))) ((sum rules unheard instants).version ∙ last_is (looks_over rules unheard instants))
        (all_met l.version (fences (bytes_in instants)) (came.going going).2);
  }

  cause : (end : End) → HasReason rules l old new gate gate' end → CauseOf rules old new gate gate' (heard_of rules instants past end) end
  cause end (inl own) = own_cause end own (came.own end own)
  cause end (inr (inl (going, is, nothing))) =
      let ended : option_map_or (λ fault. ends.Wire fault) (station_wrong rules.bytes l.used) ends.Ended ≡ end =
      sym (is ∙ ap (λ o. unwrap_or o (option_map_or (λ fault. ends.Wire fault) (station_wrong rules.bytes l.used) ends.Ended)) going) in
      subst (λ e. CauseOf rules old new gate gate' (heard_of rules instants past e) e) ended (at_end (station_wrong rules.bytes l.used) going refl nothing)
  cause end (inr (inr (inl (going, is, rose)))) =
      subst (λ e. CauseOf rules old new gate gate' (heard_of rules instants past e) e) (sym is) (rose, (came.going going).1)
  cause end (inr (inr (inr (going, is, rose)))) =
      subst (λ e. CauseOf rules old new gate gate' (heard_of rules instants past e) e) (sym is) (rose, (came.going going).1)

pub causes_since_start : (rules : Rules) → CausesSinceStart rules
causes_since_start rules to instants past end old new gate gate' rise uses reason = cause rules to instants past old new gate gate' rise uses end reason
