-- Rules 1 and 3 of vmsa_session_access, in whole structs.
use Prim.Native.Nat.{ℕ}
use mathlib.Core.Bool.{true, false}
use mathlib.Core.List.{List}
use Rattle.std.specs.Prelude.{Option, None, Some}
use mathlib.Core.Path.{◌≡◌, refl, sym, ap, subst, ◌∙◌}
use lib.ListN.{length}
use Rattle.descriptor.specs.Bytes.{Bytes}
use Rattle.vmsa.specs.Answers.{Result, refused}
use Rattle.vmsa.specs.Words.{regime_of}
use Rattle.vmsa.specs.Kinds.{writes}
use Rattle.vmsa.specs.declared.Regime.{Regime}
use Rattle.vmsa.specs.declared.RegimeWords.{RegimeWords}
use Rattle.vmsa.specs.declared.Access.{Access}
use Rattle.vmsa.specs.declared.Refusal.TheVariants.{NoRegime}
use Rattle.walk.specs.Walk.{walk}
use Rattle.rules.specs.Rule1.{FirstNumber, here}
use Rattle.tlb.specs.Replies.{Reply, refused as refused_with, Told, reply_of, uncounted, dirties}
use Rattle.tlb.specs.Walker.{no_regime}
use Rattle.tlb.specs.Ours.{ours}
use Rattle.session.specs.declared.Session.{Session as SessionStruct}
use Rattle.session.specs.Model.{Handed, handed, access}
use Rattle.session.specs.View.{session_view, regime_held}
use Rattle.session.proofs.Calls.{access_answer}
use Rattle.words.specs.declared.AccessWords.{AccessWords}
use Rattle.words.specs.declared.AnswerWords.{AnswerWords}
use Rattle.words.specs.Words.{access_of, words_of, counted_words, reply_words}
use Rattle.words.proofs.Reply.{reply_words_lem}
use Rattle.capi_walk.specs.Says.{WalkSays}
use Rattle.capi_session.specs.Says.{EmptySays, AccessSays}
use Rattle.calls.specs.Chains.{Event, Chain, more, regime_from}
use Rattle.calls.specs.Rule1.{rows_of, InPool}
use Rattle.calls.proofs.Lists.{known}
use Rattle.rule3.specs.Events.{last_regime, settled, Moment}
use Rattle.rule3.specs.Rule3.{plainly, Alike, AccessIn, Plainly, Recalled}
use Rattle.rule3.proofs.Final.{rule_3_next_of}
use Rattle.rules_c.specs.Readings.{result_in, answer_reply}
use Rattle.rules_c.specs.Code.{MadeC, accessed}
use Rattle.rules_c.specs.RulesC.{AccessRule1OfC, Walks, Recalls, AccessRules, EarlyOfC, AccessOfC}
use Rattle.rules_c.proofs.Numbers.{result_in_lem, is_refused, of_refused, refused_read, words_uncounted, clean_words, clean_read, dirty_words}
use Rattle.rules_c.proofs.Chains.{made_is, made_leaves, empty_fresh, rule_1_call_c, rule_3_c}

-- ---- one access, in any session and over any memory

module _ (s : SessionStruct) (n : List ℕ) (a : AccessWords) (s' : SessionStruct) (n' : List ℕ) (w : AnswerWords) (h : AccessSays s n a s' n' w) where
  made : MadeC s n (access (access_of a)) (handed s' n' (answer_reply w))
  made = accessed s n a s' n' w h

  -- the answer is the numbers of its own reply
  own_words : w ≡ reply_words (answer_reply w)
  own_words =
      ap (λ (x : Handed SessionStruct AnswerWords). x.reply) h ∙ ap (λ (x : Handed SessionStruct Reply). reply_words x.reply) (sym (made_is made))

  -- and of a result
  own_result : (x : Result) × (w ≡ words_of x)
  own_result =
      let x = access_answer (session_view s) n (access_of a) in
      (x.0, ap (λ (y : Handed SessionStruct AnswerWords). y.reply) h ∙ ap reply_words x.1 ∙ reply_words_lem x.0)

  read_refused : (k : ℕ) → answer_reply w ≡ refused_with k → (w.tag ≡ 2) × (w.refusal ≡ k)
  read_refused k e =
      let x = own_result in
      let z : x.0 ≡ refused k = refused_read x.0 k (sym (ap reply_of (ap result_in x.1 ∙ result_in_lem x.0)) ∙ e) in
      subst (λ (y : AnswerWords). (y.tag ≡ 2) × (y.refusal ≡ k)) (sym x.1) (is_refused x.0 k z)

  refused_reads : (k : ℕ) → (w.tag ≡ 2) × (w.refusal ≡ k) → answer_reply w ≡ refused_with k
  refused_reads k p =
      let x = own_result in
      let q : ((words_of x.0).tag ≡ 2) × ((words_of x.0).refusal ≡ k) = subst (λ (y : AnswerWords). (y.tag ≡ 2) × (y.refusal ≡ k)) x.1 p in
      ap answer_reply x.1 ∙ ap reply_of (result_in_lem x.0 ∙ of_refused x.0 q.0 ∙ ap refused q.1)

pub access_rule_1 : AccessRule1OfC
access_rule_1 s m a s' m' w h =
    let r = rule_1_call_c s m (access (access_of a)) (handed s' m' (answer_reply w)) (made s m a s' m' w h) in
    record {
      refusals = λ k. (λ p. (r.shows.refusals k).0 (refused_reads s m a s' m' w h k p), λ f. read_refused s m a s' m' w h k ((r.shows.refusals k).1 f));
      kept = λ t. (
        r.kept w.refusal (refused_reads s m a s' m' w h w.refusal (t, refl)),
        r.shows.kept w.refusal (refused_reads s m a s' m' w h w.refusal (t, refl)),
      );
      long = r.shows.long;
      outside = r.shows.outside;
      unheard = λ n same t n' x k.
          let u = r.unheard (InPool (regime_held s)) (λ i q. q) n same (handed t n' (answer_reply x)) (made s n a t n' x k) in
          (own_words s m a s' m' w h ∙ ap reply_words u.0 ∙ sym (own_words s n a t n' x k), u.1, u.2);
    }

-- ---- after a list of calls

pub access_early : EarlyOfC
access_early s₀ e₀ m₀ b₀ s m past chain q n a s' n' w h =
    let r = access_rule_1 s n a s' n' w h in
    let f : FirstNumber (rows_of (length n) None (access (access_of a))) no_regime = (NoRegime, here, refl) in
    let g : regime_held s ≡ None = known_none in
    let t = (r.refusals no_regime).1 (subst (λ (o : Option Regime). FirstNumber (rows_of (length n) o (access (access_of a))) no_regime) (sym g) f) in
    (t.0, t.1, (r.kept t.0).0, (r.kept t.0).1)
  where
    known_none : regime_held s ≡ None
    known_none =
        known regime_held MadeC rule_1_call_c s₀ m₀ chain ∙ ap (λ (o : Option Regime). regime_from o past) (ap (λ (t : _). t.regime) (empty_fresh s₀ e₀)) ∙ q

module _ {s₀ : SessionStruct} (e₀ : EmptySays s₀) {m₀ : List ℕ} (b₀ : Bytes m₀) {s : SessionStruct} {m : List ℕ} {past : List Event} (chain : Chain MadeC s₀ m₀ s m past) (g : RegimeWords) (q : last_regime past ≡ Some (regime_of g))
    (n : List ℕ) (size : length n ≡ length m) (a : AccessWords) (s' : SessionStruct) (n' : List ℕ) (w : AnswerWords) (h : AccessSays s n a s' n' w) where
  abbrev A : Access
  A = access_of a

  abbrev R : Regime
  R = regime_of g

  call : MadeC s n (access A) (handed s' n' (answer_reply w))
  call = made s n a s' n' w h

  own : w ≡ reply_words (answer_reply w)
  own = own_words s n a s' n' w h

  -- and what vmsa_walk gives is the numbers of the plain walk's
  walk_words_lem : (f : RegimeWords) (l x : List ℕ) (y : AnswerWords) → WalkSays l f a x y → y ≡ reply_words (reply_of (walk (regime_of f) A l).result)
  walk_words_lem f l x y k = ap (λ (t : Told AnswerWords). t.reply) k ∙ sym (reply_words_lem (walk (regime_of f) A l).result)

  plain_walks : Plainly ours R n A (answer_reply w) n' → Walks past m g n a n' w
  plain_walks p x l k = (own ∙ ap reply_words p.same ∙ sym (walk_words_lem g n l x k), p.bytes ∙ ap (λ (t : Told AnswerWords). t.memory) (sym k))

  recalls : (u : Moment) → Recalled ours u R n A (answer_reply w) n' → Recalls past m g n a n' w u
  recalls u p f e x l k =
      let o = (walk (regime_of f) A u.left).result in
      let z : (walk u.regime A u.left).result ≡ o = ap (λ (r : Regime). (walk r A u.left).result) (sym e) in
      let v : x ≡ words_of o = walk_words_lem f u.left l x k ∙ reply_words_lem o in (
        λ clean.
            let d : dirties (reply_of (walk u.regime A u.left).result) ≡ false =
            ap (λ (y : Result). dirties (reply_of y)) z ∙ clean_words o (ap (λ (y : AnswerWords). y.dirtied) (sym v) ∙ clean) in (
              own ∙ ap reply_words (p.one d ∙ ap (λ (y : Result). uncounted (reply_of y)) z) ∙ sym (words_uncounted (reply_of o)) ∙ ap (counted_words 0) (reply_words_lem o ∙ sym v),
              p.still d,
            ),
        λ dirty. plain_walks (p.again (ap (λ (y : Result). dirties (reply_of y)) z ∙ dirty_words o (λ t. dirty (ap (λ (y : AnswerWords). y.dirtied) v ∙ t)))),
      )

  settles : settled past ≡ true → n ≡ m → (x : AnswerWords) (l : List ℕ) → WalkSays n g a l x → (counted_words 0 w ≡ counted_words 0 x) × (n' ≡ l)
  settles t e x l k =
      let made' : MadeC s m (access A) (handed s' n' (answer_reply w)) = subst (λ (y : List ℕ). MadeC s y (access A) (handed s' n' (answer_reply w))) e call in
      let kept = (rule_3_c s₀ e₀ m₀ b₀ s' n' _ (more chain made')).calls.0.1 in
      let alike : Alike ours R m A (answer_reply w) n' = subst (λ (o : Option Regime). AccessIn ours o (settled past) A (answer_reply w) m n') q kept t in
      let z : plainly ours R m A ≡ plainly ours R n A = ap (λ (y : List ℕ). plainly ours R y A) (sym e) in (
        ap (counted_words 0) own ∙ words_uncounted (answer_reply w) ∙ ap reply_words (alike.same ∙ ap (λ (y : Told Reply). uncounted y.reply) z)
            ∙ sym (words_uncounted (reply_of (walk R A n).result)) ∙ sym (ap (counted_words 0) (walk_words_lem g n l x k)),
        alike.bytes ∙ ap (λ (y : Told Reply). y.memory) z ∙ ap (λ (y : Told AnswerWords). y.memory) (sym k),
      )

  quiet : writes A.kind ≡ false → (f : RegimeWords) (k : List ℕ) (x : AnswerWords) (l : List ℕ) → WalkSays k f a l x → x.dirtied ≡ 0
  quiet v f k x l y =
      let o = (walk (regime_of f) A k).result in
      ap (λ (t : AnswerWords). t.dirtied) (walk_words_lem f k l x y ∙ reply_words_lem o) ∙ clean_read o ((rule_3_c s₀ e₀ m₀ b₀ s m past chain).quiet (regime_of f) k A v)

  rules : AccessRules past m g n a n' w
  rules =
      let r = rule_3_next_of MadeC made_leaves s₀ (empty_fresh s₀ e₀) m₀ b₀ s m past chain R q A n size (handed s' n' (answer_reply w)) call in
      record {
        settles = settles;
        held = λ t lt p. let u = r.held t lt p in (u.0, u.1, recalls u.0 u.2);
        other = λ t lt p. plain_walks (r.other t lt p);
        unheld = λ lt. plain_walks (r.unheld lt);
        quiet = quiet;
      }

pub access_rules : AccessOfC
access_rules s₀ e₀ m₀ b₀ s m past chain g q n size a s' n' w h = rules e₀ b₀ chain g q n size a s' n' w h
