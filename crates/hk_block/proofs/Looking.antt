-- Looks one after another.
use Rattle.std.proofs.Common.{ℕ, List, [], ◌∷◌, ◌++◌, IsTrue, refl, sym, ◌∙◌, subst, arith}
use Rattle.hk_base.proofs.Taking.{Wrote-append, Wrote-nothing}
use Rattle.hk_spec_matching.proofs.Rising.{Rise-append}
use Rattle.hk_block.specs.Looker.{LookerView, KnownBy, Looks, SameCatalogue}

KnownBy-append : (vs ws : List ℕ) (a b c : LookerView) → KnownBy vs a b → KnownBy ws b c → KnownBy (vs ++ ws) a c
KnownBy-append [] [] a b c first second = λ known. second (first known)
KnownBy-append (v ∷ vs) [] a b c first second = second first
KnownBy-append [] (w ∷ ws) a b c first second = second
KnownBy-append (v ∷ vs) (w ∷ ws) a b c first second = second

-- no look, and nothing has changed
pub Looks-nothing : (view : LookerView) → Looks [] view view
Looks-nothing view = record {
  rise = omega arith;
  past = λ v songs known. known;
  known = λ known. known;
  shown = Wrote-nothing view.shown;
  room = refl;
  home = refl;
  still = refl;
  stays = λ still. record { at = refl; songs = refl; shelf = refl };
}

-- looks, and then further ones
pub Looks-append : (vs ws : List ℕ) (a b c : LookerView) → Looks vs a b → Looks ws b c → Looks (vs ++ ws) a c
Looks-append vs ws a b c first second = record {
  rise = Rise-append a.at b.at c.at vs ws first.rise second.rise;
  past = λ v songs known. second.past v songs (first.past v songs known);
  known = KnownBy-append vs ws a b c first.known second.known;
  shown = Wrote-append vs ws a.shown b.shown c.shown first.shown second.shown;
  room = second.room ∙ first.room;
  home = second.home ∙ first.home;
  still = second.still ∙ first.still;
  stays = λ is.
      let before : SameCatalogue a b = first.stays is in
      let behind : SameCatalogue b c = second.stays (subst IsTrue (sym first.still) is) in
      record { at = behind.at ∙ before.at; songs = behind.songs ∙ before.songs; shelf = behind.shelf ∙ before.shelf };
}
