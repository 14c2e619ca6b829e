use Rattle.std.proofs.Common.{◌≡◌, ◌-◌, ◌^◌, ◌%◌, ◌*◌, ◌≤◌, ℕ, length, replicate, sym, ap, ◌∙◌, subst, arith}
use Rattle.std.proofs.Math.Pow.{pow_mono}
use Rattle.std.proofs.lemmas.List.{length-replicate}
use Rattle.hk_spec_matching.specs.Buckets.{bucket_bits}
use Rattle.hk_nodes.specs.Chains.{END}
use Rattle.hk_nodes.specs.Store.{Store, IsOrderly, new_store}
use Rattle.hk_table.specs.Songs.{bucket_at, HoldSongs}
use Rattle.hk_table.proofs.Buckets.{one_shifted}
use Rattle.hk_table.proofs.Room.{filled}
use Rattle.hk_table.proofs.Kept.{hold_none, index_none}
use Rattle.hk_table.proofs.table.Table.new.Goals as goal

few_buckets : (bits : ℕ) → bits ≤ 20 → 1 * 2 ^ bits % 4294967296 ≤ 2 ^ 20
few_buckets bits most = omega (arith, one_shifted bits (omega (arith, most)), pow_mono {i = bits} {j = 20} most)

pub new-requires-clause-most_buckets : goal.new-requires-clause-most_buckets
new-requires-clause-most_buckets c = few_buckets c.bits-bits.result c.bits-bits.ensures.most

heads_are : (c : goal.In-Ok) → c.resize.new.self.items ≡ replicate c.args.songs END
heads_are c = c.in-Ok.ensures.items ∙ filled END c.new-heads.result.items c.args.songs _ c.new-heads.ensures.items c.new-heads.ensures.len

behind : (c : goal.In-Ok) → length c.in_ok-nodes.nodes.behind ≡ c.args.positions
behind c = ap (λ (s : Store). length s.behind) c.in_ok-nodes.ensures.new ∙ length-replicate c.args.positions END

pub invariant_of-result : goal.invariant_of-result
invariant_of-result c =
    let bits = c.bits-bits.result in
    let buckets : ℕ = 1 * 2 ^ bits % 4294967296 in
    let bucket : ℕ → ℕ = bucket_at (32 - bits) in
    let store : Store = new_store c.args.positions buckets in
    let is : c.in_ok-nodes.nodes ≡ store = c.in_ok-nodes.ensures.new in
    let size = behind c in
    record {
      hold = subst (HoldSongs bucket c.in_ok-nodes.nodes) (sym (heads_are c))
          (subst (λ (s : Store). HoldSongs bucket s (replicate c.args.songs END)) (sym is)
          (hold_none bucket c.args.positions buckets c.args.songs (few_buckets bits c.bits-bits.ensures.most) (subst IsOrderly is c.in_ok-nodes.ensures.orderly)));
      shift = ap (λ b. 32 - b) (c.bits-bits.ensures.bits ∙ ap bucket_bits (sym size));
      buckets = ap (λ (s : Store). length s.chains) is ∙ length-replicate buckets _ ∙ one_shifted bits (omega (arith, c.bits-bits.ensures.most))
          ∙ ap (λ b. 2 ^ b) (c.bits-bits.ensures.bits ∙ ap bucket_bits (sym size));
      few = omega (arith, size, c.requires.most);
    }

pub returns-in-Ok : goal.returns-in-Ok
returns-in-Ok c = index_none c.in_ok-nodes.nodes c.args.positions c.args.songs (behind c) c.resize.new.self.items (heads_are c)
