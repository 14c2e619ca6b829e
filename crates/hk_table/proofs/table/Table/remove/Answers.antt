use Rattle.std.proofs.Common.{◌≡◌, get_or, sym, ap, ◌∙◌, subst}
use Rattle.std.specs.Option.{IsSome}
use Rattle.hk_nodes.specs.Chains.{END}
use Rattle.hk_nodes.specs.Store.{IsHead, song_at, without_song}
use Rattle.hk_nodes.proofs.Keeping.{any_default}
use Rattle.hk_table.specs.Index.{Index, slot_at, without_words_at}
use Rattle.hk_table.specs.Songs.{as_index}
use Rattle.hk_table.proofs.Kept.{there, begins, seen_some, kept_without, index_without}
use Rattle.hk_table.proofs.table.Table.remove.Goals as goal

holds : (c : goal.After-row_known-1) → IsSome (slot_at (as_index c.self.inside) c.args.slot)
holds c = seen_some c.self.inside c.args.self.now c.args.slot c.self.view_is c.requires.holds

head_is : (c : goal.After-row_known-1) → c.index.result.now ≡ get_or c.self.inside.heads.items c.args.slot END
head_is c = c.index.ensures ∙ any_default c.self.inside.heads.items c.args.slot c.index.result.now END (there c.self.inside c.args.slot (holds c))

pub give_song-requires : goal.give_song-requires
give_song-requires c = record {
  head = subst (IsHead c.self.inside.nodes) (sym (head_is c)) (begins c.self.inside c.args.slot c.self.invariant (holds c));
}

pub invariant_of-self : goal.invariant_of-self
invariant_of-self c =
    let some = seen_some c.self.inside c.args.self.now c.args.slot c.self.view_is c.requires.holds in
    let head : c.index.result.now ≡ get_or c.self.inside.heads.items c.args.slot END =
    c.index.ensures ∙ any_default c.self.inside.heads.items c.args.slot c.index.result.now END (there c.self.inside c.args.slot some) in
    kept_without c.self.inside c.give_song.new.self c.args.slot c.self.invariant some
    (c.give_song.ensures.given ∙ ap (λ h. without_song c.self.inside.nodes (song_at c.self.inside.nodes h)) head)
    (λ x is other. c.give_song.ensures.heads x is (λ same. other (same ∙ head))) c.give_song.ensures.orderly

pub returns : goal.returns
returns c =
    let some = seen_some c.self.inside c.args.self.now c.args.slot c.self.view_is c.requires.holds in
    let head : c.index.result.now ≡ get_or c.self.inside.heads.items c.args.slot END =
    c.index.ensures ∙ any_default c.self.inside.heads.items c.args.slot c.index.result.now END (there c.self.inside c.args.slot some) in
    index_without c.self.inside c.give_song.new.self c.args.slot c.self.invariant some
    (c.give_song.ensures.given ∙ ap (λ h. without_song c.self.inside.nodes (song_at c.self.inside.nodes h)) head)
    (λ x is other. c.give_song.ensures.heads x is (λ same. other (same ∙ head))) c.give_song.ensures.orderly
    ∙ ap (λ (x : Index). without_words_at x c.args.slot) c.self.view_is
