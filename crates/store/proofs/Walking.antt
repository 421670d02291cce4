-- The walk that builds the nodes of a diagram in a store: what each call may rest on, and each of its returns.
use Prim.Native.Nat.{ℕ, suc, ◌+◌, ◌-◌, ◌*◌, ◌≤◌, ◌<◌, min}
use mathlib.Core.Path.{◌≡◌, refl, sym, ap, ◌∙◌}
use mathlib.Core.Logic.{◌≢◌}
use mathlib.Core.List.{List}
use native.Mathlib.Omega.{arith}
use native.Mathlib.Decide.{dec_lt}
use lib.ListN.{length, get_or, set, length-set}
use lib.Seq.{get_or-set_same, get_or-set_other}
use Rattle.diagram.specs.Limits.{max_nodes}
use Rattle.diagram.specs.Diagram.{var_of, low_of, high_of, size, vars}
use Rattle.diagram.proofs.Reading.{Layered, layered}
use Rattle.store.specs.Store.{Node, node, Built, built, join}
use Rattle.store.specs.Build.{Ready, own, Memo}
use Rattle.store.specs.Room.{farthest, next_from, heads_from, word_in, next_in, head_in, memo_in, store_in, store_words, key_of, Outside, Stored, Shelf, Standing, Done, On, Walking, Arrived, Walked}
use Rattle.store.proofs.Canon.{join_extends}
use Rattle.store.proofs.Sound.{join_stands}
use Rattle.store.proofs.Graph.{own_terminal, own_node, own_means, own_ready, own_low_fits, own_high_fits, low_built, high_built}
use Rattle.store.proofs.Chains.{chains_same}
use Rattle.store.proofs.Tables.{nodes_length, held_same, memo_same, memo_grown, memo_note}
use Rattle.store.proofs.Joining.{stands}

-- A word that is written outside a store leaves the store.
stored_put : (b c : ℕ) (o : List Node) (r : List ℕ) (j x : ℕ) → Outside b (store_words c) j → Stored b c o r → Stored b c o (set r j x)
stored_put b c o r j x out s =
    let fits = s.fits in
    record {
      space = record { near = s.space.near; few = s.space.few; long = simp length-set s.space.long };
      fits = fits;
      chains = chains_same (key_of c) c o (head_in b c r) (next_in b c r) (head_in b c (set r j x)) (next_in b c (set r j x)) s.chains
          (λ h in-h. get_or-set_other r j (heads_from b c + h) x 0 (λ e. out (4 * c + h) (omega arith) (omega arith)))
          (λ q two in-q. get_or-set_other r j (next_from b c + q) x 0 (λ e. out (3 * c + q) (omega arith) (omega arith)));
      held = held_same o (word_in b r) (word_in b (set r j x)) s.held
          (λ i in-i. get_or-set_other r j (b + i) x 0 (λ e. out i (omega arith) (sym e)));
    }

module _ {w : List ℕ} {q b c : ℕ} {r : List ℕ} {k p : ℕ} (a : Walking w q b c r k p) where
  in_layers : Layered w (vars w) (size w)
  in_layers = layered w a.on.ordered

  -- the memo's place
  pub walk_near : q + p < 2 * farthest
  walk_near = let near = a.on.near in let few = a.on.ordered.formed.few in let h = a.node in omega arith

  mine : Built
  mine = own w (vars w) p (store_in b r k)

  -- The pointer that is built is in the store.
  mine_place : mine.pointer < length mine.store
  unfolding mine
  mine_place = (own_means w (vars w) (size w) in_layers p a.node (store_in b r k) a.on.sound).place

  -- ---- nothing is added

  walk_stays : (x : ℕ) → own w (vars w) p (store_in b r k) ≡ built (store_in b r k) x → Walked w q b c r k p r x k
  walk_stays x e =
      let fits = a.on.stored.fits in
      let all : length (own w (vars w) p (store_in b r k)).store ≡ k = ap (λ (y : Built). length y.store) e ∙ nodes_length (word_in b r) k in
      let now = nodes_length (word_in b r) k in
      record {
        is_count = omega arith;
        arrived = λ few. record { is_pointer = rw e refl; on = rw e a.on };
        nowhere = λ over. absurd (omega arith);
        beyond = λ j far out. refl;
      }

  pub walk_terminal : p < 2 → Walked w q b c r k p r p k
  walk_terminal t = walk_stays p (own_terminal w (vars w) (size w) in_layers p t a.node (store_in b r k))

  pub walk_known : {x : ℕ} → x ≡ get_or r (q + p) 0 → x ≢ 0 → Walked w q b c r k p r (x - 1) k
  walk_known {x} e some = walk_stays (x - 1) (a.on.noted.entry p (x - 1) a.node (omega arith))

  -- ---- the children

  module _ (two : 2 ≤ p) where
    pub walk_falls : {d : ℕ} → d ≡ low_of w p → vars w - var_of w d < vars w - var_of w p
    walk_falls {d} e =
        let node = in_layers.node p two a.node in
        let var = node.var in
        let above = node.above_low in
        let here : var_of w d ≡ var_of w (low_of w p) = ap (var_of w) e in
        omega arith

    pub walk_falls_high : {d : ℕ} → d ≡ high_of w p → vars w - var_of w d < vars w - var_of w p
    walk_falls_high {d} e =
        let node = in_layers.node p two a.node in
        let var = node.var in
        let above = node.above_high in
        let here : var_of w d ≡ var_of w (high_of w p) = ap (var_of w) e in
        omega arith

    pub walk_low : {d : ℕ} → d ≡ low_of w p → Walking w q b c r k d
    walk_low e = rw e (record { on = a.on; node = (in_layers.node p two a.node).low })

    module _ {d : ℕ} (is-low : d ≡ low_of w p) {r₁ : List ℕ} {l k₁ : ℕ} (low : Walked w q b c r k d r₁ l k₁) where
      -- The low child needs more places than there are: so does the node.
      pub walk_low_full : c < k₁ → Walked w q b c r k p r₁ l k₁
      walk_low_full over =
          let more = own_low_fits w (vars w) (size w) in_layers p two a.node (store_in b r k) in
          let here : length (own w (vars w) d (store_in b r k)).store ≡ length (low_built w (vars w) p (store_in b r k)).store = ap (λ (i : ℕ). length (own w (vars w) i (store_in b r k)).store) is-low in
          let is = low.is_count in
          record {
            is_count = omega arith;
            arrived = λ few. absurd (omega arith);
            nowhere = low.nowhere;
            beyond = low.beyond;
          }

      module _ (few-low : k₁ ≤ c) where
        there : Arrived w q b c r k d r₁ l
        there = low.arrived few-low

        -- what stands in the room after the low child is what was built for it
        low_stands : store_in b r₁ k₁ ≡ (own w (vars w) d (store_in b r k)).store
        low_stands = stands b c (own w (vars w) d (store_in b r k)).store r₁ there.on.stored k₁ (let is = low.is_count in omega arith)

        low_store : store_in b r₁ k₁ ≡ (low_built w (vars w) p (store_in b r k)).store
        low_store = low_stands ∙ ap (λ (i : ℕ). (own w (vars w) i (store_in b r k)).store) is-low

        pub walk_high : {e : ℕ} → e ≡ high_of w p → Walking w q b c r₁ k₁ e
        walk_high is = rw is (record { on = rw low_stands there.on; node = (in_layers.node p two a.node).high })

        module _ {e : ℕ} (is-high : e ≡ high_of w p) {r₂ : List ℕ} {h k₂ : ℕ} (high : Walked w q b c r₁ k₁ e r₂ h k₂) where
          high_built_lem : own w (vars w) e (store_in b r₁ k₁) ≡ high_built w (vars w) p (store_in b r k)
          high_built_lem = rw (is-high, low_store) refl

          high_length : length (own w (vars w) e (store_in b r₁ k₁)).store ≡ length (high_built w (vars w) p (store_in b r k)).store
          high_length = ap (λ (y : Built). length y.store) high_built_lem

          kept_so_far : (j : ℕ) → Outside q (size w) j → Outside b (store_words c) j → get_or r₂ j 0 ≡ get_or r j 0
          kept_so_far j far out = high.beyond j far out ∙ low.beyond j far out

          pub walk_high_full : c < k₂ → Walked w q b c r k p r₂ h k₂
          walk_high_full over =
              let more = own_high_fits w (vars w) (size w) in_layers p two a.node (store_in b r k) in
              let here = high_length in
              let is = high.is_count in
              record {
                is_count = omega arith;
                arrived = λ few. absurd (omega arith);
                nowhere = high.nowhere;
                beyond = kept_so_far;
              }

          module _ (few-high : k₂ ≤ c) where
            here : Arrived w q b c r₁ k₁ e r₂ h
            here = high.arrived few-high

            high_stands : store_in b r₂ k₂ ≡ (own w (vars w) e (store_in b r₁ k₁)).store
            high_stands = stands b c (own w (vars w) e (store_in b r₁ k₁)).store r₂ here.on.stored k₂ (let is = high.is_count in omega arith)

            high_store : store_in b r₂ k₂ ≡ (high_built w (vars w) p (store_in b r k)).store
            high_store = high_stands ∙ ap (λ (y : Built). y.store) high_built_lem

            high_on : On w q b c (store_in b r₂ k₂) r₂
            high_on = rw high_stands here.on

            low_pointer : l ≡ (low_built w (vars w) p (store_in b r k)).pointer
            low_pointer = there.is_pointer ∙ ap (λ (i : ℕ). (own w (vars w) i (store_in b r k)).pointer) is-low

            high_pointer : h ≡ (high_built w (vars w) p (store_in b r k)).pointer
            high_pointer = here.is_pointer ∙ ap (λ (y : Built). y.pointer) high_built_lem

            module _ {i : ℕ} (is-var : i ≡ var_of w p) where
              own_is : own w (vars w) p (store_in b r k) ≡ join i l h (store_in b r₂ k₂)
              own_is = rw (is-var, low_pointer, high_pointer, high_store) (own_node w (vars w) (size w) in_layers p two a.node (store_in b r k))

              ready : Ready (vars w) (store_in b r₂ k₂) i l h
              ready = rw (is-var, low_pointer, high_pointer, high_store) (own_ready w (vars w) (size w) in_layers p two a.node (store_in b r k) a.on.sound)

              pub walk_shelf : Shelf b c r₂ k₂ (node i l h)
              walk_shelf = record { stored = high_on.stored; vars = vars w; sound = high_on.sound; below = ready.var }

              module _ {r₃ : List ℕ} {x k₃ : ℕ} (joined : Done b c (join i l h (store_in b r₂ k₂)) r₂ r₃ x k₃) where
                -- where it has a place
                module _ (few-made : k₃ ≤ c) where
                  standing : Standing b c (own w (vars w) p (store_in b r k)) r₃ x
                  standing = rw own_is (joined.stands few-made)

                  made_small : x < max_nodes
                  unfolding mine
                  made_small =
                      let place = mine_place in
                      let e = standing.is_pointer in
                      let fits = standing.stored.fits in
                      let few = standing.stored.space.few in
                      omega arith

                pub walk_small : x < max_nodes
                walk_small = elim (dec_lt c k₃) [
                  | yes over ↦ let z = joined.nowhere over in omega arith
                  | no few ↦ made_small (omega arith)
                ]

                module _ {r₄ : List ℕ} (same : length r₃ ≡ length r) (is-r₄ : r₄ ≡ set r₃ (q + p) (x + 1)) where
                  -- the memo while nothing is noted yet
                  memo_before : k₃ ≤ c → Memo w (vars w) (size w) (own w (vars w) p (store_in b r k)).store (memo_in q r₃)
                  memo_before none = rw own_is (memo_grown w (vars w) (size w) (memo_in q r₃) (join_extends i l h (store_in b r₂ k₂))
                      (memo_same w (vars w) (size w) (store_in b r₂ k₂) (memo_in q r₂) (memo_in q r₃) high_on.noted
                      (λ j in-w. joined.beyond (q + j) (a.on.apart j in-w))))

                  noted_on : k₃ ≤ c → On w q b c (own w (vars w) p (store_in b r k)).store (set r₃ (q + p) (x + 1))
                  noted_on none =
                      let inside = a.on.inside in
                      let in-w = a.node in
                      let e = (standing none).is_pointer in
                      record {
                        ordered = a.on.ordered;
                        sound = (own_means w (vars w) (size w) in_layers p a.node (store_in b r k) a.on.sound).sound;
                        stored = stored_put b c (own w (vars w) p (store_in b r k)).store r₃ (q + p) (x + 1) (a.on.apart p in-w) (standing none).stored;
                        near = a.on.near;
                        inside = simp length-set (omega arith);
                        apart = a.on.apart;
                        noted = memo_note w (vars w) (size w) (store_in b r k) p (memo_in q r₃) (memo_in q (set r₃ (q + p) (x + 1))) (memo_before none)
                            (get_or-set_same r₃ (q + p) (x + 1) 0 (omega arith) ∙ omega arith)
                            (λ j in-j ne. get_or-set_other r₃ (q + p) (q + j) (x + 1) 0 (λ z. ne (omega arith)));
                      }

                  pub walk_node : Walked w q b c r k p r₄ x k₃
                  walk_node = rw is-r₄ (record {
                    is_count = joined.is_count ∙ ap (λ (y : Built). min (length y.store) (suc c)) (sym own_is);
                    arrived = λ few. record { is_pointer = (standing few).is_pointer; on = noted_on few };
                    nowhere = joined.nowhere;
                    beyond = λ j far out. get_or-set_other r₃ (q + p) j (x + 1) 0 (far p a.node) ∙ joined.beyond j out ∙ kept_so_far j far out;
                  })
