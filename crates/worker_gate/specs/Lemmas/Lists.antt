-- Lemmas: what lists of entries tell when entries are added.
use Rattle.std.specs.Prelude.{◌≡◌, true, List, [], ◌∷◌, ◌++◌, Some, None, refl}
use Rattle.std.proofs.Common.{sym, ap, ◌∙◌, append_assoc}
use Rattle.event_core.specs.declared.entry.Entry.{Entry}
use Rattle.event_core.specs.Histories.{state_from}
use Rattle.event_core.specs.Lemmas.Running.{state_from-append}
use Rattle.node_pool.specs.declared.halt.Halt.{Halt}
use Rattle.worker_gate.specs.declared.entry.Opening.{Opening}
use Rattle.worker_gate.specs.declared.entry.PoolEntry.{PoolEntry}
use Rattle.worker_gate.specs.declared.entry.PoolEntry.TheVariants.{Opened, Happened, Halted}
use Rattle.worker_gate.specs.Entries.{happened, is_opened, opening_in, events_in, halt_in, state_in, history_in}

-- ---- events
pub events-append : (xs ys : List PoolEntry) → events_in (xs ++ ys) ≡ events_in xs ++ events_in ys
events-append [] ys = refl
events-append (Opened o ∷ xs) ys = events-append xs ys
events-append (Happened e ∷ xs) ys = ap (λ (es : List Entry). e ∷ es) (events-append xs ys)
events-append (Halted h ∷ xs) ys = events-append xs ys

pub events-happened : (es : List Entry) → events_in (happened es) ≡ es
events-happened [] = refl
events-happened (e ∷ es) = ap (λ (fs : List Entry). e ∷ fs) (events-happened es)

pub happened-append : (es fs : List Entry) → happened (es ++ fs) ≡ happened es ++ happened fs
happened-append [] fs = refl
happened-append (e ∷ es) fs = ap (λ (l : List PoolEntry). Happened e ∷ l) (happened-append es fs)

-- ---- the opening
pub opened-append : (xs ys : List PoolEntry) → is_opened xs ≡ true → is_opened (xs ++ ys) ≡ true
opened-append [] ys h = cc
opened-append (Opened o ∷ xs) ys h = refl
opened-append (Happened e ∷ xs) ys h = cc
opened-append (Halted c ∷ xs) ys h = cc

pub opening-append : (xs ys : List PoolEntry) → is_opened xs ≡ true → opening_in (xs ++ ys) ≡ opening_in xs
opening-append [] ys h = cc
opening-append (Opened o ∷ xs) ys h = refl
opening-append (Happened e ∷ xs) ys h = cc
opening-append (Halted c ∷ xs) ys h = cc

-- ---- halts
pub halt-first : (xs ys : List PoolEntry) (h : Halt) → halt_in xs ≡ Some h → halt_in (xs ++ ys) ≡ Some h
halt-first [] ys h e = cc
halt-first (Opened o ∷ xs) ys h e = halt-first xs ys h e
halt-first (Happened f ∷ xs) ys h e = halt-first xs ys h e
halt-first (Halted c ∷ xs) ys h e = e

pub halt-none : (xs ys : List PoolEntry) → halt_in xs ≡ None → halt_in (xs ++ ys) ≡ halt_in ys
halt-none [] ys e = refl
halt-none (Opened o ∷ xs) ys e = halt-none xs ys e
halt-none (Happened f ∷ xs) ys e = halt-none xs ys e
halt-none (Halted c ∷ xs) ys e = cc

pub halt-happened : (es : List Entry) → halt_in (happened es) ≡ None
halt-happened [] = refl
halt-happened (e ∷ es) = halt-happened es

-- ---- the state and the history
pub state-append : (xs ys : List PoolEntry) → is_opened xs ≡ true → state_in (xs ++ ys) ≡ state_from (state_in xs) (events_in ys)
state-append xs ys h =
    ap (λ (es : List Entry). state_from (opening_in (xs ++ ys)).state.state es) (events-append xs ys)
    ∙ ap (λ (o : Opening). state_from o.state.state (events_in xs ++ events_in ys)) (opening-append xs ys h)
    ∙ state_from-append (opening_in xs).state.state (events_in xs) (events_in ys)

pub history-append : (xs ys : List PoolEntry) → is_opened xs ≡ true → history_in (xs ++ ys) ≡ history_in xs ++ events_in ys
history-append xs ys h =
    ap (λ (es : List Entry). (opening_in (xs ++ ys)).state.history ++ es) (events-append xs ys)
    ∙ ap (λ (o : Opening). o.state.history ++ (events_in xs ++ events_in ys)) (opening-append xs ys h)
    ∙ sym (append_assoc (opening_in xs).state.history (events_in xs) (events_in ys))
