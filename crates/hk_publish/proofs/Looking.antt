-- What an enter and a look tell.
use Rattle.std.proofs.Common.{◌≡◌, ℕ, ◌≤◌, [], ◌∷◌, ◌++◌, List, length, refl, sym, ◌∙◌, ap, subst, le_refl, append_assoc, Option, Some}
use Rattle.std.specs.Option.{IfSome, option_map_or}
use Rattle.std.proofs.lemmas.List.{append-nil}
use mathlib.Core.List.{IsPrefix}
use Rattle.hk_spec_matching.specs.Catalogue.{Limits, Journal, version}
use Rattle.hk_block.specs.Looker.{Looks, KeepsPast}
use Rattle.hk_publish.specs.Journals.{past_of_journal}
use Rattle.hk_publish.specs.Edition.{Edition}
use Rattle.hk_publish.specs.Views.{View, Origin}
use Rattle.hk_publish.specs.Sharing.{Finds, Enters, Catches, origin_of}
use Rattle.hk_publish.specs.Known.{Known, IsLook, CatchesUp, HasCaughtUp, HasLearned, IsSettled, IsFound, the_origin, no_origin, known_at, home_of, home_with, looker_of}
use Rattle.hk_journal.proofs.Prefixes.{prefix_self, prefix_trans, prefix_length}
use Rattle.hk_publish.proofs.Journals.{songs_at_version, past_is, past_stays}

module _ (old new : View) (found : Edition) (settled : IsSettled old) (f : Finds old found new) where
  same_origin : the_origin new ≡ the_origin old
  same_origin = ap (λ (o : Option Origin). option_map_or (λ origin. origin) o no_origin) f.origin

  settled_after : IsSettled new
  settled_after = f.origin ∙ settled ∙ ap (λ (o : Origin). Some o) (sym same_origin)

  found_origin : origin_of found ≡ the_origin new
  found_origin = sym (subst (λ (o : Option Origin). IfSome o (λ origin. origin ≡ origin_of found)) (sym f.origin ∙ settled_after) f.known)

  pub found_after : IsFound new found
  found_after = record { settled = settled_after; origin = found_origin; whole = f.whole; seen = f.seen }

  pub same_home : home_of (the_origin new).book ≡ home_of (the_origin old).book
  same_home = ap (λ (o : Origin). home_of o.book) same_origin

  pub same_limits : (the_origin new).limits ≡ (the_origin old).limits
  same_limits = ap (λ (o : Origin). o.limits) same_origin

  pub is_entered : new.entered ≡ old.entered ++ new.seen ∷ []
  is_entered = f.entered ∙ ap (λ (j : Journal). old.entered ++ j ∷ []) (sym f.seen)

-- the songs of what was found are those of what was seen
pub found_songs : (v : View) (found : Edition) → IsFound v found → found.songs ≡ version (the_origin v).limits v.seen (length v.seen)
found_songs v found is =
    is.whole.songs ∙ sym (songs_at_version found.limits found.journal)
    ∙ (λ i. version ((is.origin i).limits) (sym is.seen i) (length (sym is.seen i)))

pub found_version : (v : View) (found : Edition) → IsFound v found → found.version ≡ length v.seen
found_version v found is = is.whole.version ∙ ap length (sym is.seen)

pub look_of : (old new : View) (found : Edition) → IsSettled old → Enters old found new → IsLook (known_at old) (length new.seen) (known_at new)
look_of old new found settled e = record {
  home = same_home old new found settled e.finds;
  limits = same_limits old new found settled e.finds;
  answers = refl;
  grows = e.finds.grows;
  entered = is_entered old new found settled e.finds;
  shown = e.shown ∙ ap (λ (v : ℕ). old.shown ++ v ∷ []) (found_version new found (found_after old new found settled e.finds));
}

pub catch_of : (old new : View) (found : Edition) → IsSettled old → Catches old found new → CatchesUp (known_at old) (known_at new)
catch_of old new found settled e = record {
  home = same_home old new found settled e.finds;
  limits = same_limits old new found settled e.finds;
  grows = e.finds.grows;
  entered = is_entered old new found settled e.finds;
  shown = e.shown;
}

-- one who has caught up with nothing
pub caught_self : (k : Known) → HasCaughtUp k k
caught_self k = record { home = refl; limits = refl; grows = prefix_self k.seen; entered = ([], sym (append-nil k.entered)); shown = refl }

module _ (a b c : Known) (p : HasCaughtUp a b) (q : CatchesUp b c) where
  all_entered : c.entered ≡ a.entered ++ p.entered.0 ++ c.seen ∷ []
  all_entered = q.entered ∙ ap (λ (l : List Journal). l ++ c.seen ∷ []) p.entered.1

  pub caught_more : HasCaughtUp a c
  caught_more = record {
    home = q.home ∙ p.home;
    limits = q.limits ∙ p.limits;
    grows = prefix_trans a.seen b.seen c.seen p.grows q.grows;
    entered = (p.entered.0 ++ c.seen ∷ [], all_entered ∙ append_assoc a.entered p.entered.0 (c.seen ∷ []));
    shown = q.shown ∙ p.shown;
  }

  -- one who has caught up with a note has learned it
  pub learned_note : (note : Journal) → IsPrefix note c.seen → HasLearned a note c
  learned_note note has = record {
    home = caught_more.home;
    limits = caught_more.limits;
    grows = caught_more.grows;
    has_note = has;
    entered = (p.entered.0, all_entered);
    shown = caught_more.shown;
  }

-- what a look is for all that look by a looker
pub looks_of : (old : Known) (answer : ℕ) (new : Known) → IsLook old answer new → Looks (answer ∷ []) (looker_of old) (looker_of new)
looks_of old answer new is =
    let low : length old.seen ≤ length new.seen = prefix_length old.seen new.seen is.grows in record {
      rise = subst (λ (v : ℕ). (length old.seen ≤ v) × (v ≤ length new.seen)) (sym is.answers) (low, le_refl (length new.seen));
      past = subst (λ (l : Limits). KeepsPast (past_of_journal old.limits old.seen) (past_of_journal l new.seen)) (sym is.limits) (past_stays old.limits old.seen new.seen is.grows);
      known = past_is new.limits new.seen (length new.seen) (le_refl (length new.seen));
      shown = ap (λ (vs : List ℕ). Some vs) is.shown;
      room = ap (λ (l : Limits). l.positions) is.limits;
      home = (λ i. Some (home_with (is.limits i) (is.home i)));
      still = refl;
      stays = λ no. absurd (cc no);
    }
