-- A store in the working room: how it begins, the search along a chain, and joining two children.
use Prim.Native.Nat.{ℕ, ◌+◌, ◌-◌, ◌*◌, ◌≤◌, ◌<◌, min}
use mathlib.Core.Path.{◌≡◌, refl, sym, ap, ◌∙◌, subst}
use mathlib.Core.Logic.{◌≢◌}
use mathlib.Core.Bool.{true, false, true≢false, and-true}
use mathlib.Core.List.{List, [], ◌∷◌, ◌++◌}
use native.Mathlib.Omega.{arith}
use lib.ListN.{length, get_or, drop, replicate}
use borrow.Rule.Slice.PartMut.{put_mid, mid_of}
use lib.Dec.{eqb}
use borrow.Author.Tests.{eq-eqb}
use Rattle.diagram.specs.Limits.{max_nodes}
use Rattle.store.specs.Store.{Node, node, same, Built, built, join, terminals}
use Rattle.store.specs.Build.{at, Seek}
use Rattle.store.specs.Room.{next_from, heads_from, store_to, store_words, word_in, next_in, head_in, store_in, key_of, Outside, started, entered, Stored, Space, Forgotten, Empty, Started, Shelf, Sought, Standing, Done}
use Rattle.store.proofs.Store.{same_yes, same_no, node_discrete, length_add}
use Rattle.store.proofs.Canon.{join_equal, join_there, join_new}
use Rattle.store.proofs.Chains.{chains_start, chains_add, seek_start, seek_next, seek_falls, seek_found, seek_missing}
use Rattle.store.proofs.Tables.{held_start, held_add, held_is, nodes_length, held_nodes, nodes_held}
use Rattle.store.proofs.Zones.{key_below, started_other, started_length, started_0, started_1, started_2, started_3, started_4, started_5, entered_other, entered_length, entered_var, entered_low, entered_high, entered_head, entered_next, wiped_zero, wiped_other}

-- ---- the start

-- The keys' words are cleared.
pub forgotten : {b c : ℕ} {r : List ℕ} → Space b c r → {part : List ℕ}
    → part ≡ replicate (min c (length (mid_of (heads_from b c) (store_to b c - heads_from b c) r))) 0 ++ drop c (mid_of (heads_from b c) (store_to b c - heads_from b c) r)
    → Forgotten b c r (put_mid (heads_from b c) (store_to b c - heads_from b c) r part)
forgotten {b} {c} {r} a e = record {
  heads = wiped_zero (heads_from b c) (store_to b c) r (omega arith) a.long (omega arith) e;
  beyond = wiped_other (heads_from b c) (store_to b c) r (omega arith) a.long (omega arith) e;
}

module _ {b c : ℕ} {r : List ℕ} (a : Empty b c r) where
  pub empty_near : b + 5 < length r
  empty_near = let long = a.space.long in let two = a.two in omega arith

  pub starts : {v : ℕ} {after : List ℕ} → after ≡ started b r v → Started b c v r after
  starts {v} {after} e =
      let two = a.two in
      let long = a.space.long in
      let near = empty_near in
      let first : b + 0 ≡ b = omega arith in
      rw e (record {
        stored = record {
          space = record { near = a.space.near; few = a.space.few; long = let l = started_length b r v in omega arith };
          fits = two;
          chains = chains_start (key_of c) v c (head_in b c (started b r v)) (next_in b c (started b r v))
              (λ h in-h. started_other b r v (heads_from b c + h) (λ e. omega arith) (λ e. omega arith) (λ e. omega arith) (λ e. omega arith) (λ e. omega arith) (λ e. omega arith)
              ∙ a.heads h in-h);
          held = held_start v (word_in b (started b r v)) (ap (λ (j : ℕ). get_or (started b r v) j 0) first ∙ started_0 b r v near)
              (started_1 b r v near) (started_2 b r v near) (started_3 b r v near) (started_4 b r v near) (started_5 b r v near);
        };
        beyond = λ j out. started_other b r v j (λ z. out 0 (omega arith) (omega arith)) (out 1 (omega arith)) (out 2 (omega arith)) (out 3 (omega arith)) (out 4 (omega arith)) (out 5 (omega arith));
      })

-- ---- the search

-- The three words at a node's place, as `is_node` reads them.
abbrev pub three_at : List ℕ → ℕ → Node
three_at r a = node (get_or r a 0) (get_or r (a + 1) 0) (get_or r (a + 2) 0)

-- The returns of `is_node`.
pub three_low : (r : List ℕ) (a : ℕ) (n : Node) {x : ℕ} → x ≡ get_or r (a + 1) 0 → x ≢ n.low → false ≡ same (three_at r a) n
three_low r a n e ne = sym (same_no (three_at r a) n (λ q. ne (e ∙ ap (λ (k : Node). k.low) q)))

pub three_high : (r : List ℕ) (a : ℕ) (n : Node) {x : ℕ} → x ≡ get_or r (a + 2) 0 → x ≢ n.high → false ≡ same (three_at r a) n
three_high r a n e ne = sym (same_no (three_at r a) n (λ q. ne (e ∙ ap (λ (k : Node). k.high) q)))

pub three_var : (r : List ℕ) (a : ℕ) (n : Node) {x y z : ℕ} → x ≡ get_or r (a + 1) 0 → x ≡ n.low → y ≡ get_or r (a + 2) 0 → y ≡ n.high → z ≡ get_or r a 0
    → eqb z n.var ≡ same (three_at r a) n
unfolding same
three_var r a n e low f high g =
    rw (g, eq-eqb (get_or r (a + 1) 0) n.low (sym e ∙ low), eq-eqb (get_or r (a + 2) 0) n.high (sym f ∙ high)) (sym (and-true (eqb (get_or r a 0) n.var)))

-- What stands in the room is what is stored.
pub stands : (b c : ℕ) (o : List Node) (r : List ℕ) → Stored b c o r → (k : ℕ) → k ≡ length o → store_in b r k ≡ o
stands b c o r s k e = rw e (nodes_held o (word_in b r) s.held)

module _ {b c : ℕ} {r : List ℕ} {k : ℕ} {n : Node} (s : Shelf b c r k n) where
  count_is : length (store_in b r k) ≡ k
  count_is = nodes_length (word_in b r) k

  pub shelf_fits : k ≤ c
  shelf_fits = let e = count_is in let f = s.stored.fits in omega arith

  shelf_some : 0 < c
  shelf_some = let e = s.sound.enough in let f = s.stored.fits in omega arith

  pub key_small : key_of c n < c
  key_small = key_below c n shelf_some

  store_at : (q : ℕ) → q < k → at (store_in b r k) q ≡ three_at r (b + 3 * q)
  store_at q h =
      let l = count_is in
      let low : b + (3 * q + 1) ≡ b + 3 * q + 1 = omega arith in
      let high : b + (3 * q + 2) ≡ b + 3 * q + 2 = omega arith in
      held_is (store_in b r k) (word_in b r) (three_at r (b + 3 * q)) q (held_nodes (word_in b r) k) (omega arith)
      refl (ap (λ (j : ℕ). get_or r j 0) low) (ap (λ (j : ℕ). get_or r j 0) high)

  pub seek_begin : {h q : ℕ} → h ≡ key_of c n → q ≡ get_or r (heads_from b c + h) 0 → Seek (key_of c) (store_in b r k) n q
  seek_begin e f =
      rw (f, e) (seek_start (key_of c) c (store_in b r k) (head_in b c r) (next_in b c r) n s.stored.chains (let two = s.sound.enough in omega arith) key_small)

  module _ {q : ℕ} (t : Seek (key_of c) (store_in b r k) n q) where
    pub seek_inside : q < k
    seek_inside = let i = t.inside in let l = count_is in omega arith

    seek_differs : same (three_at r (b + 3 * q)) n ≡ false → at (store_in b r k) q ≢ n
    seek_differs f e = true≢false (sym (same_yes (three_at r (b + 3 * q)) n (sym (store_at q seek_inside) ∙ e)) ∙ f)

    pub seek_onward : q ≢ 0 → same (three_at r (b + 3 * q)) n ≡ false → {x : ℕ} → x ≡ get_or r (next_from b c + q) 0 → Seek (key_of c) (store_in b r k) n x
    seek_onward ne f e = rw e (seek_next (key_of c) c (store_in b r k) (head_in b c r) (next_in b c r) n q s.stored.chains t ne (seek_differs f))

    pub seek_less : q ≢ 0 → {x : ℕ} → x ≡ get_or r (next_from b c + q) 0 → x < q
    seek_less ne e = rw e (seek_falls (key_of c) c (store_in b r k) (head_in b c r) (next_in b c r) n q s.stored.chains t ne)

    pub seek_hit : q ≢ 0 → same (three_at r (b + 3 * q)) n ≡ true → Sought b c r k n q
    seek_hit ne e =
        let inside = seek_inside in
        record {
          most = omega arith;
          here = λ l. seek_found (key_of c) s.vars (store_in b r k) n q s.sound t ne (store_at q inside ∙ same_told (three_at r (b + 3 * q)) n e);
          absent = λ e. absurd (omega arith);
        }
      where
        same_told : (x y : Node) → same x y ≡ true → x ≡ y
        same_told x y e = elim (node_discrete x y) [
          | yes d ↦ d
          | no d ↦ absurd (true≢false (sym e ∙ same_no x y d))
        ]

  pub seek_end : {q : ℕ} → q ≡ 0 → Seek (key_of c) (store_in b r k) n q → Sought b c r k n k
  seek_end e t = record {
    most = omega arith;
    here = λ l. absurd (omega arith);
    absent = λ x. subst (Seek (key_of c) (store_in b r k) n) e t;
  }

  -- ---- the returns of joining

  abbrev joined : Built
  joined = join n.var n.low n.high (store_in b r k)

  -- Nothing is added.
  stays : {p : ℕ} → joined ≡ built (store_in b r k) p → Done b c joined r r p k
  stays {p} e =
      let all : length joined.store ≡ k = ap (λ (x : Built). length x.store) e ∙ count_is in
      let fits = shelf_fits in
      record {
        is_count = omega arith;
        stands = λ few. record { is_pointer = rw e refl; stored = rw e s.stored };
        nowhere = λ over. absurd (omega arith);
        beyond = λ j out. refl;
      }

  pub joins_equal : n.low ≡ n.high → Done b c joined r r n.low k
  joins_equal e = stays (join_equal n.var n.low n.high (store_in b r k) e)

  module _ (ne : n.low ≢ n.high) {q : ℕ} (f : Sought b c r k n q) where
    pub joins_found : q < k → Done b c joined r r q k
    joins_found l =
        let here = f.here l in
        let all = count_is in
        stays (join_there n.var n.low n.high (store_in b r k) ne (omega arith) ∙ ap (built (store_in b r k)) here)

    -- The node isn't there.
    module _ (l : k ≤ q) where
      away : Seek (key_of c) (store_in b r k) n 0
      away = f.absent (let most = f.most in omega arith)

      made : joined ≡ built (store_in b r k ++ (n ∷ [])) (length (store_in b r k))
      made = join_new n.var n.low n.high (store_in b r k) ne (seek_missing (key_of c) s.vars (store_in b r k) n s.sound s.below away)

      one_more : length joined.store ≡ k + 1
      one_more =
          let more = length_add (store_in b r k) n in
          let all = count_is in
          ap (λ (x : Built). length x.store) made ∙ omega arith

      pub joins_full : c < k + 1 → Done b c joined r r 0 (c + 1)
      joins_full over =
          let longer = one_more in
          let fits = shelf_fits in
          record {
            is_count = omega arith;
            stands = λ few. absurd (omega arith);
            nowhere = λ over. refl;
            beyond = λ j out. refl;
          }

      module _ (space : k + 1 ≤ c) where
        abbrev x : ℕ
        x = key_of c n

        abbrev after : List ℕ
        after = entered b c r k x n

        free : k < c
        free = omega arith

        other : (j : ℕ) → j ≢ b + 3 * k → j ≢ b + 3 * k + 1 → j ≢ b + 3 * k + 2 → j ≢ next_from b c + k → j ≢ heads_from b c + x → get_or after j 0 ≡ get_or r j 0
        other = entered_other b c r k x n

        entered_stored : Stored b c (store_in b r k ++ (n ∷ [])) after
        entered_stored =
            let all = count_is in
            let two = s.sound.enough in
            let long = s.stored.space.long in
            let in-k = free in
            let in-x = key_small in
            let more = length_add (store_in b r k) n in
            record {
              space = record { near = s.stored.space.near; few = s.stored.space.few; long = let e = entered_length b c r k x n in omega arith };
              fits = omega arith;
              chains = chains_add (key_of c) c (store_in b r k) (head_in b c r) (next_in b c r) (head_in b c after) (next_in b c after) n s.stored.chains two in-x
                  (entered_head b c r k x n long in-k in-x ∙ sym all)
                  (λ y in-y ne-y. other (heads_from b c + y) (λ e. omega arith) (λ e. omega arith) (λ e. omega arith) (λ e. omega arith) (λ e. ne-y (omega arith)))
                  (ap (λ (i : ℕ). next_in b c after i) all ∙ entered_next b c r k x n long in-k in-x)
                  (λ p two-p in_p. other (next_from b c + p) (λ e. omega arith) (λ e. omega arith) (λ e. omega arith) (λ e. omega arith) (λ e. omega arith));
              held = held_add (store_in b r k) (word_in b r) (word_in b after) n s.stored.held
                  (λ j in-j. other (b + j) (λ e. omega arith) (λ e. omega arith) (λ e. omega arith) (λ e. omega arith) (λ e. omega arith))
                  (ap (λ (i : ℕ). word_in b after (3 * i)) all ∙ entered_var b c r k x n long in-k in-x)
                  (ap (λ (i : ℕ). word_in b after (3 * i + 1)) all ∙ entered_low b c r k x n long in-k in-x)
                  (ap (λ (i : ℕ). word_in b after (3 * i + 2)) all ∙ entered_high b c r k x n long in-k in-x);
            }

        pub joins_new : {h : ℕ} → h ≡ x → {later : List ℕ} → later ≡ entered b c r k h n → Done b c joined r later k (k + 1)
        joins_new {h} e {later} g =
            let is : later ≡ after = g ∙ ap (λ (i : ℕ). entered b c r k i n) e in
            let longer = one_more in
            let in-k = free in
            let in-x = key_small in
            rw is (record {
              is_count = omega arith;
              stands = λ few. record {
                is_pointer = sym (ap (λ (i : Built). i.pointer) made ∙ count_is);
                stored = rw made entered_stored;
              };
              nowhere = λ over. absurd (omega arith);
              beyond = λ j out. other j (out (3 * k) (omega arith)) (λ z. out (3 * k + 1) (omega arith) (omega arith)) (λ z. out (3 * k + 2) (omega arith) (omega arith))
                  (λ z. out (3 * c + k) (omega arith) (omega arith)) (λ z. out (4 * c + x) (omega arith) (omega arith));
            })
