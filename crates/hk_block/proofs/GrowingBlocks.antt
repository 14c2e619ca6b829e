-- One print more adds the block that it completes, if it completes one.
use Rattle.std.proofs.Common.{◌≡◌, ℕ, suc, ◌+◌, ◌-◌, ◌*◌, ◌/◌, ◌%◌, ◌<◌, ◌≤◌, ◌==◌, ◌&&◌, nat_le, cond, Bool, true, false, List, [], ◌∷◌, ◌++◌, length, drop, take, refl, sym, ◌∙◌, ap, arith, length-append, length-drop, inl, inr}
use Rattle.std.proofs.lemmas.List.{take_all}
use Rattle.std.proofs.lemmas.List.FromFn.{length-map-range_with_len}
use Rattle.std.proofs.lemmas.Bool.{leb-true, eqb-true}
use Rattle.std.proofs.lemmas.Bool.Decides.{leb_tells}
use Rattle.std.proofs.lemmas.Nat.{div-add-mod'}
use Rattle.hk_base.specs.declared.plain.Print.{Print}
use Rattle.hk_spec_sound.specs.Windows.{windows, window, window_count}
use Rattle.hk_spec_sound.proofs.GrowingWindows.{windows-append, window_count-more, completes}
use Rattle.hk_spec_streams.specs.Blocks.{BlockRule}
use Rattle.hk_block.specs.Ring.{Ring, HasLastPrints, Takes, AddsBlock, PlacesBlock, BLOCK_SIZE, completes_block}

pub both : (a b : Bool) → (a && b) ≡ true → (a ≡ true) × (b ≡ true)
both true b is = (refl, is)
both false b is = (is, absurd (let no : false ≡ true = is in cc))

-- the windows before the one that the last item completes stand as many steps in front of it as there are
pub count_times : (size step n : ℕ) → 0 < step → completes size step (n + 1) ≡ true → window_count size step n * step ≡ n + 1 - size
count_times size step n some is =
    let tests : (nat_le size (n + 1) ≡ true) × (((n + 1 - size) % step == 0) ≡ true) = both _ _ is in
    let reaches : size ≤ n + 1 = leb-true _ _ tests.0 in
    let exact : (n + 1 - size) % step ≡ 0 = eqb-true _ _ tests.1 in
    let still : nat_le (suc (n + 1)) size ≡ false = elim (leb_tells (suc (n + 1)) size) [ inl few ↦ absurd (omega (arith, few.1, reaches)) | inr many ↦ many.0 ] in
    let after : window_count size step (n + 1) ≡ (n + 1 - size) / step + 1 = ap (λ b. cond b 0 ((n + 1 - size) / step + 1)) still in
    let more : window_count size step (n + 1) ≡ window_count size step n + 1 = window_count-more size step n some ∙ ap (λ b. window_count size step n + cond b 1 0) is in
    let before : window_count size step n ≡ (n + 1 - size) / step = omega (arith, after, more) in
    let whole : (n + 1 - size) / step * step + (n + 1 - size) % step ≡ n + 1 - size = div-add-mod' (n + 1 - size) step in
    ap (λ w. w * step) before ∙ omega (arith, whole, exact)

-- the window that the last item completes is what stands at the end
pub window_at_end : {A : Type 0} (size step : ℕ) (xs : List A) (x : A) → 0 < step → completes size step (length xs + 1) ≡ true
    → window size step (xs ++ x ∷ []) (window_count size step (length xs)) ≡ drop (length (xs ++ x ∷ []) - size) (xs ++ x ∷ [])
window_at_end size step xs x some is =
    let long : length (xs ++ x ∷ []) ≡ length xs + 1 = length-append xs (x ∷ []) in
    let place : window_count size step (length xs) * step ≡ length (xs ++ x ∷ []) - size = count_times size step (length xs) some is ∙ ap (λ n. n - size) (sym long) in
    let reaches : size ≤ length xs + 1 = leb-true _ _ (both _ _ is).0 in
    let short : length (drop (length (xs ++ x ∷ []) - size) (xs ++ x ∷ [])) ≤ size = omega (arith, length-drop (length (xs ++ x ∷ []) - size) (xs ++ x ∷ []), long) in
    ap (λ p. take size (drop p (xs ++ x ∷ []))) place ∙ take_all size (drop (length (xs ++ x ∷ []) - size) (xs ++ x ∷ [])) short

pub length-windows : {A : Type 0} (size step : ℕ) (xs : List A) → length (windows size step xs) ≡ window_count size step (length xs)
unfolding windows
length-windows size step xs = length-map-range_with_len (window size step xs) 0 (window_count size step (length xs))

same_hop : (old new : Ring) → new.block ≡ old.block → new.block.hop ≡ old.block.hop
same_hop old new same = ap (λ (rule : BlockRule). rule.hop) same

-- the ring's test is the windows' test
same_test : (old new : Ring) (print : Print) (prints : List Print) → new.block.hop ≡ old.block.hop → HasLastPrints new (prints ++ print ∷ [])
    → completes_block new ≡ completes BLOCK_SIZE old.block.hop (length prints + 1)
same_test old new print prints hop has =
    ap (λ n. nat_le BLOCK_SIZE n && ((n - BLOCK_SIZE) % new.block.hop == 0)) (has.count ∙ length-append prints (print ∷ []))
    ∙ ap (λ h. completes BLOCK_SIZE h (length prints + 1)) hop

added : (hop : ℕ) (prints : List Print) (print : Print) (last : List Print) (b : Bool) → 0 < hop → completes BLOCK_SIZE hop (length prints + 1) ≡ b
    → last ≡ drop (length (prints ++ print ∷ []) - BLOCK_SIZE) (prints ++ print ∷ [])
    → cond b (window BLOCK_SIZE hop (prints ++ print ∷ []) (window_count BLOCK_SIZE hop (length prints)) ∷ []) [] ≡ cond b (last ∷ []) []
added hop prints print last true some is end = ap (λ w. w ∷ []) (window_at_end BLOCK_SIZE hop prints print some is ∙ sym end)
added hop prints print last false some is end = refl

-- a print adds to the blocks what the ring then holds, where it completes a block
pub block-added : (old new : Ring) (print : Print) → 0 < old.block.hop → Takes old print new → AddsBlock old print new
block-added old new print some takes prints has =
    let after : HasLastPrints new (prints ++ print ∷ []) = takes.1 prints has in
    let test : completes_block new ≡ completes BLOCK_SIZE old.block.hop (length prints + 1) = same_test old new print prints (same_hop old new takes.0) after in
    ap (λ h. windows BLOCK_SIZE h (prints ++ print ∷ [])) (same_hop old new takes.0)
    ∙ windows-append BLOCK_SIZE old.block.hop prints print some
    ∙ ap (λ ws. windows BLOCK_SIZE old.block.hop prints ++ ws) (added old.block.hop prints print new.last (completes BLOCK_SIZE old.block.hop (length prints + 1)) some refl after.last)
    ∙ ap (λ b. windows BLOCK_SIZE old.block.hop prints ++ cond b (new.last ∷ []) []) (sym test)

-- and that block begins as many hops from the first print as there were blocks
pub block-placed : (old new : Ring) (print : Print) → 0 < old.block.hop → Takes old print new → PlacesBlock old print new
block-placed old new print some takes prints has is =
    let after : HasLastPrints new (prints ++ print ∷ []) = takes.1 prints has in
    let test : completes_block new ≡ completes BLOCK_SIZE old.block.hop (length prints + 1) = same_test old new print prints (same_hop old new takes.0) after in
    let done : completes BLOCK_SIZE old.block.hop (length prints + 1) ≡ true = sym test ∙ is in
    let times : window_count BLOCK_SIZE old.block.hop (length prints) * old.block.hop ≡ length prints + 1 - BLOCK_SIZE = count_times BLOCK_SIZE old.block.hop (length prints) some done in
    let count : length (windows BLOCK_SIZE old.block.hop prints) ≡ window_count BLOCK_SIZE old.block.hop (length prints) = length-windows BLOCK_SIZE old.block.hop prints in
    let long : new.count ≡ length prints + 1 = after.count ∙ length-append prints (print ∷ []) in
    ap (λ n. n - BLOCK_SIZE) long ∙ sym times ∙ ap (λ n. n * old.block.hop) (sym count) ∙ ap (λ h. length (windows BLOCK_SIZE old.block.hop prints) * h) (sym (same_hop old new takes.0))
    ∙ omega arith
