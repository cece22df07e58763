-- The shapes that calls have, and what each shape owes: a call that reaches no memory (`by_itself`, and its two kinds `answers_only`,
-- `changes_only`), one that reaches memory and leaves the machine (`by_memory`), and one that moves rsp (`stack`). Owed.antt has one
-- clause to a call, each a shape with what fills it. Assumes nothing.
use mathlib.Core.Bool.{Bool, true, false, cond}
use mathlib.Core.List.{List, [], ◌∷◌}
use mathlib.Core.Path.{◌≡◌, refl, sym, ap, ap₂, ◌∙◌}
use Prim.Native.Nat.{ℕ, ◌^◌, ◌<◌}
use lib.ListN.{length, replicate}
use Rattle.utils.specs.Bytes.{to_bytes, from_bytes}
use Rattle.utils.specs.Outcome.{Outcome, gives, accepted, first_if}
use Rattle.instruction_set.specs.Registers.{row}
use Rattle.instruction_set.specs.Sizes.{bytes_of}
use Rattle.instruction_set.specs.declared.ArgumentSize.{ArgumentSize}
use Rattle.instruction_set.specs.declared.Register.TheVariants.{RSP}
use Rattle.fields.specs.Parts.{memory_value}
use Rattle.mmu.specs.Calls.{read_outcome, read_out, write_outcome, write_store, shown_of}
use Rattle.store.specs.Store.{Store}
use Rattle.walk.specs.Walk.{physical}
use Rattle.machine_state.specs.Answers.{Value, CallResult}
use Rattle.machine_state.specs.Memory.{cr3 as cr3Of, with_rsp, leaves, word_outcome, event_shown, read_memory, write_memory, valued, loaded}
use Rattle.machine_state.specs.Memory.{stored_at, at_address, rsp_if_accepted}
use Rattle.machine_state.specs.declared.Event.{Event}
use Rattle.machine_state.specs.declared.Event.TheVariants.{Quiet}
use Rattle.machine_state.specs.declared.MachineState.{MachineState}
use Rattle.calls.specs.Step.{step, with_lent}
use Rattle.calls.specs.declared.Call.{Call}
use Rattle.effects.specs.Places.{place, WellTyped, CallAnswer, call_answer}
use Rattle.effects.specs.Rows.{spans, none, rsp_places, nothing, reads_of, rewrites_of, reaches, in_span, in_spans}
use Rattle.effects.specs.declared.Span.{Span}
use Rattle.effects.specs.declared.Spans.{Spans}
use Rattle.effects.proofs.Places.{AgreeWhere, Renews, same_where, register_renews, rsp_written}
use Rattle.effects.proofs.Within.{in_one, one_only, nothing_in}

-- the places of a call's row; two machines agree on those that it reads
abbrev pub read : Call → ℕ → Bool
read c p = in_spans (reads_of c) p

abbrev pub rewritten : Call → ℕ → Bool
rewritten c p = in_spans (rewrites_of c) p

abbrev pub Agree : Call → MachineState → MachineState → Type 0
Agree c m n = AgreeWhere (read c) m n

-- ---- what a call owes: its changes of the machine, and its replies
pub record Changes (c : Call) : Type 0 where
  pub good : (m : MachineState) (s : Store) (l : List ℕ) → WellTyped m → WellTyped (step c m s l).machine
  pub keeps : (m : MachineState) (s : Store) (l : List ℕ) (p : ℕ) → WellTyped m → rewritten c p ≡ false
      → place (step c m s l).machine p ≡ place m p
  pub renews : (m n : MachineState) (s t : Store) (l : List ℕ) (p : ℕ) → WellTyped m → WellTyped n → Agree c m n
      → (reaches c ≡ true → s ≡ t)
      → rewritten c p ≡ true → place (step c m s l).machine p ≡ place (step c n t l).machine p

pub record Replies (c : Call) : Type 0 where
  pub stays : (m : MachineState) (s : Store) (l : List ℕ) → reaches c ≡ false → (step c m s l).store ≡ s
  pub moves : (m n : MachineState) (s t : Store) (l : List ℕ) → WellTyped m → WellTyped n → Agree c m n → s ≡ t
      → (step c m s l).store ≡ (step c n t l).store
  pub answers : (m n : MachineState) (s t : Store) (l : List ℕ) → WellTyped m → WellTyped n → Agree c m n → (reaches c ≡ true → s ≡ t)
      → call_answer (step c m s l) ≡ call_answer (step c n t l)

pub record Owes (c : Call) : Type 0 where
  pub changes : Changes c
  pub replies : Replies c

-- ---- changes: by a function of the machine alone, or none
by_function : (c : Call) (f : MachineState → MachineState) → ((m : MachineState) (s : Store) (l : List ℕ) → (step c m s l).machine ≡ f m)
    → Renews (read c) f (rewritten c) → Changes c
by_function c f e r =
    record {
      good = λ m s l g. rw (e m s l) (r.good m g);
      keeps = λ m s l p g h. ap (λ (k : MachineState). place k p) (e m s l) ∙ r.keeps m p g h;
      renews = λ m n s t l p g k a q h.
          ap (λ (x : MachineState). place x p) (e m s l) ∙ r.renews m n p g k a h ∙ sym (ap (λ (x : MachineState). place x p) (e n t l));
    }

-- a row of one span is that span
pub one_span : (c : Call) (f : MachineState → MachineState) (s : Span) → rewrites_of c ≡ spans s none none none
    → Renews (read c) f (in_span s)
    → Renews (read c) f (rewritten c)
one_span c f s e r = same_where (read c) f (in_span s) (rewritten c) (λ p. ap (λ (w : Spans). in_spans w p) e ∙ one_only s p) r

-- a row of none, and the machine stays as it is
pub unmoved : (c : Call) → rewrites_of c ≡ nothing → Renews (read c) (λ m. m) (rewritten c)
unmoved c e =
    record {
      good = λ m g. g;
      keeps = λ m p g h. refl;
      renews = λ m n p g k q h.
          let z : rewritten c p ≡ false = ap (λ (w : Spans). in_spans w p) e ∙ nothing_in p in
          let w : place m p ≡ place n p = cc in w;
    }

still : (c : Call) → rewrites_of c ≡ nothing → ((m : MachineState) (s : Store) (l : List ℕ) → (step c m s l).machine ≡ m) → Changes c
still c e h = by_function c (λ m. m) h (unmoved c e)

-- ---- a call that reaches no memory: it makes f of the machine and answers, both by what its row reads
pub by_itself : (c : Call) (e : Event) (f : MachineState → MachineState) (o : MachineState → Outcome Value)
    → ((m : MachineState) (s : Store) (l : List ℕ) → step c m s l ≡ leaves (f m) s l e (o m))
    → Renews (read c) f (rewritten c) → ((m n : MachineState) → Agree c m n → o m ≡ o n) → Owes c
by_itself c e f o is r same =
    record {
      changes = by_function c f (λ m s l. ap (λ (x : CallResult). x.machine) (is m s l)) r;
      replies = record {
        stays = λ m s l h. stored m s l;
        moves = λ m n s t l g k a q. stored m s l ∙ q ∙ sym (stored n t l);
        answers = λ m n s t l g k a q.
            ap call_answer (is m s l) ∙ ap (λ (x : Outcome Value). record { outcome = x; event = e; lent = l }) (same m n a)
            ∙ sym (ap call_answer (is n t l));
      };
    }
  where
    stored : (m : MachineState) (s : Store) (l : List ℕ) → (step c m s l).store ≡ s
    stored m s l = ap (λ (x : CallResult). x.store) (is m s l)

-- one that leaves the machine, and one that answers nothing
pub answers_only : (c : Call) (o : MachineState → Outcome Value)
    → ((m : MachineState) (s : Store) (l : List ℕ) → step c m s l ≡ leaves m s l Quiet (o m))
    → rewrites_of c ≡ nothing → ((m n : MachineState) → Agree c m n → o m ≡ o n) → Owes c
answers_only c o is row same = by_itself c Quiet (λ m. m) o is (unmoved c row) same

pub changes_only : (c : Call) (e : Event) (f : MachineState → MachineState)
    → ((m : MachineState) (s : Store) (l : List ℕ) → step c m s l ≡ leaves (f m) s l e (gives [])) → Renews (read c) f (rewritten c)
    → Owes c
changes_only c e f is r = by_itself c e f (λ m. gives []) is r (λ m n a. refl)

-- ---- what a call that reaches memory leaves, but for the machine
pub record Same (r q : CallResult) : Type 0 where
  pub reply : call_answer r ≡ call_answer q
  pub store : r.store ≡ q.store

reached : (c : Call) → reaches c ≡ true
    → ((m n : MachineState) (s : Store) (l : List ℕ) → WellTyped m → WellTyped n → Agree c m n → Same (step c m s l) (step c n s l))
    → Replies c
reached c e h =
    record {
      stays = λ m s l f. let w : (step c m s l).store ≡ s = cc in w;
      moves = λ m n s t l g k a q. (h m n s l g k a).store ∙ ap (λ (u : Store). (step c n u l).store) q;
      answers = λ m n s t l g k a q. (h m n s l g k a).reply ∙ ap (λ (u : Store). call_answer (step c n u l)) (q e);
    }

-- a call that reaches memory and leaves the machine as it is
pub by_memory : (c : Call) → rewrites_of c ≡ nothing → reaches c ≡ true
    → ((m : MachineState) (s : Store) (l : List ℕ) → (step c m s l).machine ≡ m)
    → ((m n : MachineState) (s : Store) (l : List ℕ) → WellTyped m → WellTyped n → Agree c m n → Same (step c m s l) (step c n s l))
    → Owes c
by_memory c w r is same = record { changes = still c w is; replies = reached c r same }

-- memory is read and written by cr3, the address and the store
module _ (m n : MachineState) (s : Store) (e : cr3Of m ≡ cr3Of n) where
  pub read_alike : (a b : ℕ) (l : List ℕ) → a ≡ b → Same (read_memory m s a l) (read_memory n s b l)
  unfolding read_memory
  read_alike a b l f =
      record {
        reply =
            ap₂ (λ (x y : ℕ). record { outcome = word_outcome (read_outcome s (length l)); event = Quiet; lent = read_out s x y l }) e f;
        store = refl;
      }

  pub write_alike : (a b : ℕ) (l : List ℕ) → a ≡ b → Same (write_memory m s a l) (write_memory n s b l)
  unfolding write_memory
  write_alike a b l f =
      let p : physical s (cr3Of m) a ≡ physical s (cr3Of n) b = ap₂ (physical s) e f in
      record {
        reply =
            ap
            (λ (x : ℕ). record { outcome = word_outcome (write_outcome s x (length l)); event = event_shown (shown_of s x l); lent = l })
            p;
        store = ap (λ (x : ℕ). write_store s x l) p;
      }

  pub load_alike : (a b : ℕ) (z : ArgumentSize) → a ≡ b → Same (loaded m s a z) (loaded n s b z)
  unfolding loaded
  load_alike a b z f =
      let h = read_alike a b (replicate (bytes_of z) 0) f in
      record {
        reply = ap
            (λ (q : CallAnswer). record { outcome = valued q.outcome (memory_value z (from_bytes q.lent)); event = q.event; lent = [] })
            h.reply;
        store = h.store;
      }

  pub store_alike : (a b : ℕ) (z : ArgumentSize) (v : ℕ) → a ≡ b → Same (stored_at m s a z v) (stored_at n s b z v)
  unfolding stored_at
  store_alike a b z v f =
      let h = write_alike a b (to_bytes (bytes_of z) v) f in
      record { reply = ap (λ (q : CallAnswer). record { outcome = q.outcome; event = q.event; lent = [] }) h.reply; store = h.store }

  -- at an address, or its refusal
  pub at_alike : (o : Outcome ℕ) (go to : ℕ → CallResult) → ((a : ℕ) → Same (go a) (to a))
      → Same (at_address m s o go) (at_address n s o to)
  at_alike o go to h = pick (accepted o) o.values
    where
      refused : MachineState → CallResult
      refused x = leaves x s [] Quiet (word_outcome o)

      pick : (b : Bool) (vs : List ℕ) → Same (first_if b vs go (refused m)) (first_if b vs to (refused n))
      pick true (a ∷ rest) = h a
      pick true [] = record { reply = refl; store = refl }
      pick false vs = record { reply = refl; store = refl }

-- none of these changes the machine
pub load_still : (m : MachineState) (s : Store) (a : ℕ) (z : ArgumentSize) → (loaded m s a z).machine ≡ m
unfolding loaded read_memory
load_still m s a z = refl

pub store_still : (m : MachineState) (s : Store) (a : ℕ) (z : ArgumentSize) (v : ℕ) → (stored_at m s a z v).machine ≡ m
unfolding stored_at write_memory
store_still m s a z v = refl

pub at_still : (m : MachineState) (s : Store) (o : Outcome ℕ) (go : ℕ → CallResult) → ((a : ℕ) → (go a).machine ≡ m)
    → (at_address m s o go).machine ≡ m
at_still m s o go h = pick (accepted o) o.values
  where
    pick : (b : Bool) (vs : List ℕ) → (first_if b vs go (leaves m s [] Quiet (word_outcome o))).machine ≡ m
    pick true (a ∷ rest) = h a
    pick true [] = refl
    pick false vs = refl

-- a reply with the bytes that were lent, where the call lends none
pub lent_back : {r q : CallResult} (l : List ℕ) → Same r q → Same (with_lent l r) (with_lent l q)
lent_back l h =
    record { reply = ap (λ (x : CallAnswer). record { outcome = x.outcome; event = x.event; lent = l }) h.reply; store = h.store }

-- ---- rsp goes to x if the call is accepted, and stays if not: either way by what is read, since rsp is among it
-- rsp's own change asks nothing of the places read
nowhere : ℕ → Bool
nowhere p = false

agree_nowhere : (m n : MachineState) → AgreeWhere nowhere m n
unfolding nowhere
agree_nowhere m n p t = let w : place m p ≡ place n p = cc in w

rsp_moves : (b : Bool) (m n : MachineState) (x p : ℕ) → WellTyped m → WellTyped n → x < 2 ^ 64
    → place m p ≡ place n p → in_span rsp_places p ≡ true
    → place (cond b (with_rsp m x) m) p ≡ place (cond b (with_rsp n x) n) p
unfolding row
rsp_moves true m n x p g k l e h =
    ap (λ (y : MachineState). place y p) (rsp_written m x g l) ∙ (register_renews RSP x nowhere).renews m n p g k (agree_nowhere m n) h
    ∙ sym (ap (λ (y : MachineState). place y p) (rsp_written n x k l))
rsp_moves false m n x p g k l e h = e

rsp_good : (b : Bool) (m : MachineState) (x : ℕ) → WellTyped m → x < 2 ^ 64 → WellTyped (cond b (with_rsp m x) m)
rsp_good true m x g l = rw (rsp_written m x g l) ((register_renews RSP x nowhere).good m g)
rsp_good false m x g l = g

rsp_keeps : (b : Bool) (m : MachineState) (x p : ℕ) → WellTyped m → x < 2 ^ 64 → in_span rsp_places p ≡ false
    → place (cond b (with_rsp m x) m) p ≡ place m p
unfolding row
rsp_keeps true m x p g l h = ap (λ (y : MachineState). place y p) (rsp_written m x g l) ∙ (register_renews RSP x nowhere).keeps m p g h
rsp_keeps false m x p g l h = refl

-- what a push or a pop does, apart from rsp: an access, and where rsp goes after it
pub record StackAccess : Type 0 where
  pub done : CallResult
  pub to : ℕ

pub record StackAlike (a b : StackAccess) : Type 0 where
  pub done : Same a.done b.done
  pub to : a.to ≡ b.to

moved_alike : {r q : CallResult} (x y : ℕ) → Same r q → Same (rsp_if_accepted r x) (rsp_if_accepted q y)
moved_alike x y h = record { reply = h.reply; store = h.store }

accepted_alike : {r q : CallResult} → Same r q → accepted r.outcome ≡ accepted q.outcome
accepted_alike h = ap (λ (x : CallAnswer). accepted x.outcome) h.reply

pub stack : (c : Call) (access : MachineState → Store → List ℕ → StackAccess)
    → ((m : MachineState) (s : Store) (l : List ℕ) → step c m s l ≡ with_lent l (rsp_if_accepted (access m s l).done (access m s l).to))
    → ((m : MachineState) (s : Store) (l : List ℕ) → ((access m s l).done.machine ≡ m) × ((access m s l).to < 2 ^ 64))
    → rewrites_of c ≡ spans rsp_places none none none → reaches c ≡ true → (reads_of c).one ≡ rsp_places
    → ((m n : MachineState) (s : Store) (l : List ℕ) → WellTyped m → WellTyped n → Agree c m n → StackAlike (access m s l) (access n s l))
    → Owes c
stack c access is plain w r o same =
    record {
      changes = record {
        good = λ m s l g. rw (ends m s l) (rsp_good (ok m s l) m (to m s l) g (plain m s l).1);
        keeps = λ m s l p g h. ap (λ (x : MachineState). place x p) (ends m s l)
            ∙ rsp_keeps (ok m s l) m (to m s l) p g (plain m s l).1 (sym (row_is p) ∙ h);
        renews = λ m n s t l p g k a q h.
            let u = same m n s l g k a in
            let i : in_span rsp_places p ≡ true = sym (row_is p) ∙ h in
            ap (λ (x : MachineState). place x p) (ends m s l)
            ∙ rsp_moves (ok m s l) m n (to m s l) p g k (plain m s l).1 (a p (in_one (reads_of c) p (rw o i))) i
            ∙ ap₂ (λ (b : Bool) (x : ℕ). place (cond b (with_rsp n x) n) p) (accepted_alike u.done) u.to
            ∙ sym (ap (λ (x : MachineState). place x p) (ends n s l)) ∙ ap (λ (v : Store). place (step c n v l).machine p) (q r);
      };
      replies = reached c r
          (λ m n s l g k a. rw (is m s l, is n s l)
          (let u = same m n s l g k a in lent_back l (moved_alike (to m s l) (to n s l) u.done)));
    }
  where
    ok : MachineState → Store → List ℕ → Bool
    ok m s l = accepted (access m s l).done.outcome

    to : MachineState → Store → List ℕ → ℕ
    to m s l = (access m s l).to

    row_is : (p : ℕ) → rewritten c p ≡ in_span rsp_places p
    row_is p = ap (λ (s : Spans). in_spans s p) w ∙ one_only rsp_places p

    ends : (m : MachineState) (s : Store) (l : List ℕ) → (step c m s l).machine ≡ cond (ok m s l) (with_rsp m (to m s l)) m
    ends m s l =
        ap (λ (x : CallResult). x.machine) (is m s l)
        ∙ ap (λ (y : MachineState). cond (ok m s l) (with_rsp y (to m s l)) y) (plain m s l).0
