-- No other node of a generation may serve.
use Rattle.std.proofs.Common.{◌≡◌, ℕ, ◌<◌, ◌⊎◌, inl, inr, Bool, true, false, Option, Some, None, refl, sym, subst, ◌∙◌, ap}
use Rattle.std.specs.Prelude.{IfSome, is_some, slice_get}
use Rattle.guest_lockstep.specs.Machine.{Machine}
use Rattle.pair_events.specs.declared.reply.Role as shown
use Rattle.pair_events.specs.declared.reply.Role.TheVariants as role
use Rattle.ft_node.specs.AnyNode.{IsRole}
use Rattle.ft_world.specs.Shows.{IsStatusAt}
use Rattle.ft_world.specs.declared.hosts.NodeStatus.{NodeStatus}
use Rattle.pair_protocol.specs.Copying.{Copying}
use Rattle.pair_protocol.specs.Node.{Node, Role, Primary, Backup, Joining, Draining, Alone, Spare}
use Rattle.pair_protocol.specs.Settled.{highest}
use Rattle.pair_protocol.specs.World.{World, winner_in}
use Rattle.pair_protocol.proofs.Invariant.{AsAlone, AsBackup, AsDraining, AsJoining, BackupState, BackupWon, Inv, Line, LineOf, PrimaryWon, Stage, winner_at}
use Rattle.pair_protocol.proofs.Invariant.Acting.{Acting, ActingBackup, ActingPrimary, BackupActs, PrimaryActs, acting, acting_backup, acting_primary}
use Rattle.pair_protocol.proofs.Traces.Lists.{same_some}
use Rattle.pair_shell.specs.Serves.{AreAll, HasOtherRole, HaveOtherRoles, IsOneOf, IsRoleIn, NobodyServes, NoneJoins, Serves, SomebodyServes, node_in, undecided_as, won_as}
use Rattle.pair_shell.specs.declared.serving.ServingNodes.{ServingNodes}
use Rattle.pair_shell.specs.declared.serving.ServingNodes.TheVariants as serving

-- ---- what a node shows

-- it shows one role
abbrev role_shown : Bool → Role → Option shown.Role
role_shown false r = Some role.Halted
role_shown true Primary = Some role.Primary
role_shown true Backup = Some role.Backup
role_shown true Joining = Some role.Joining
role_shown true Draining = Some role.Draining
role_shown true Alone = Some role.Alone
role_shown true Spare = None

shows : {S : Type 0} (x : Node S) (p : shown.Role) → IsRole x p → role_shown x.running x.role ≡ Some p
shows x role.Primary is = ap (λ b. role_shown b x.role) is.0 ∙ ap (role_shown true) is.1
shows x role.Backup is = ap (λ b. role_shown b x.role) is.0 ∙ ap (role_shown true) is.1
shows x role.Joining is = ap (λ b. role_shown b x.role) is.0 ∙ ap (role_shown true) is.1
shows x role.Draining is = ap (λ b. role_shown b x.role) is.0 ∙ ap (role_shown true) is.1
shows x role.Alone is = ap (λ b. role_shown b x.role) is.0 ∙ ap (role_shown true) is.1
shows x role.Halted is = ap (λ b. role_shown b x.role) is

pub one_role : {S : Type 0} (x : Node S) (p q : shown.Role) → IsRole x p → IsRole x q → p ≡ q
one_role x p q is so = let both : Some p ≡ Some q = sym (shows x p is) ∙ shows x q so in (cc)

-- no status is shown, or that of a node of another generation
pub no_role : {S : Type 0} (M : Machine S) (w : World S) (n generation : ℕ) → IsStatusAt M (slice_get w.nodes n) None →
    IsRoleIn w n generation None
no_role M w n generation is x there same = subst (λ o. IsStatusAt M o None) there is

pub other_generation : {S : Type 0} (M : Machine S) (w : World S) (n generation : ℕ) (status : NodeStatus) →
    IsStatusAt M (slice_get w.nodes n) (Some status) → (status.generation ≡ generation → ⊥) → IsRoleIn w n generation None
other_generation M w n generation status is other x there same =
    absurd (other ((subst (λ o. IsStatusAt M o (Some status)) there is).generation ∙ same))

-- a node that shows another role, or none
pub other_role : {S : Type 0} (w : World S) (n generation : ℕ) (its role : shown.Role) →
    IsRoleIn w n generation (Some its) → (its ≡ role → ⊥) → HasOtherRole w n generation role
other_role w n generation its role is other x there real same so =
    let at = same_some is.0 x (slice_get w.nodes n) is.1 there in
    other (one_role x its role (subst (λ y. IsRole y its) at is.2) so)

pub no_such_role : {S : Type 0} (w : World S) (n generation : ℕ) (role : shown.Role) → IsRoleIn w n generation None →
    HasOtherRole w n generation role
no_such_role w n generation role is x there real same so = real (is x there same)

-- ---- the nodes of a generation

backup_won : {S : Type 0} (M : Machine S) (C : Copying S) (l : Line S) (b : Node S) → BackupState M C l b →
    (b.role ≡ Draining) ⊎ (b.role ≡ Alone) → l.stage ≡ BackupWon
backup_won M C l b (AsJoining r s f) h = absurd (elim h [ inl d ↦ (cc) | inr a ↦ (cc) ])
backup_won M C l b (AsBackup r s f) h = absurd (elim h [ inl d ↦ (cc) | inr a ↦ (cc) ])
backup_won M C l b (AsDraining r s m f) h = s
backup_won M C l b (AsAlone r s made) h = s

module _ {S : Type 0} (M : Machine S) (C : Copying S) (w : World S) (i : Inv M C w) where
  -- one that drains or is alone has won it
  won_is : (n : ℕ) (x : Node S) → slice_get w.nodes n ≡ Some x → (x.role ≡ Draining) ⊎ (x.role ≡ Alone) →
      winner_in w.winners x.generation ≡ Some n
  won_is n x there role = go (acting M C w i n x there (λ k. elim role [ inl d ↦ (cc) | inr a ↦ (cc) ]))
    where
      o : LineOf M C w i.top i.trace x.generation
      o = i.each x.generation

      named : (stage : Stage) → o.line.stage ≡ stage → winner_at stage o.line.primary o.line.backup ≡ Some n →
          winner_in w.winners x.generation ≡ Some n
      named stage is names = o.tied ∙ ap (λ z. winner_at z o.line.primary o.line.backup) is ∙ names

      go : Acting M C w i n x → winner_in w.winners x.generation ≡ Some n
      go (PrimaryActs q p) = elim q.is_primary.role [
        | inl r ↦ absurd (elim role [ inl d ↦ (cc) | inr a ↦ (cc) ])
        | inr r ↦ named PrimaryWon r.1 (ap (λ k. Some k) (sym q.spot))
      ]
      go (BackupActs q p) =
          named BackupWon (backup_won M C o.line x q.is_backup.state role) (ap (λ k. Some k) (sym q.spot))

  -- it has one primary and one backup
  one_primary : (n m : ℕ) (x y : Node S) → slice_get w.nodes n ≡ Some x → slice_get w.nodes m ≡ Some y →
      x.running ≡ true → y.running ≡ true → x.role ≡ Primary → y.role ≡ Primary → x.generation ≡ y.generation → n ≡ m
  one_primary n m x y at_n at_m up_n up_m role_n role_m same =
      let a : ActingPrimary M C w i n x =
      acting_primary M C w i n x (record { there = at_n; up = up_n; role_is = role_n }) in
      let b : ActingPrimary M C w i m y =
      acting_primary M C w i m y (record { there = at_m; up = up_m; role_is = role_m }) in
      a.spot ∙ ap (λ g. (i.each g).line.primary) same ∙ sym b.spot

  one_backup : (n m : ℕ) (x y : Node S) → slice_get w.nodes n ≡ Some x → slice_get w.nodes m ≡ Some y →
      x.running ≡ true → y.running ≡ true → x.role ≡ Backup → y.role ≡ Backup → x.generation ≡ y.generation → n ≡ m
  one_backup n m x y at_n at_m up_n up_m role_n role_m same =
      let a : ActingBackup M C w i n x =
      acting_backup M C w i n x Backup (record { there = at_n; up = up_n; role_is = role_n }) tt in
      let b : ActingBackup M C w i m y =
      acting_backup M C w i m y Backup (record { there = at_m; up = up_m; role_is = role_m }) tt in
      a.spot ∙ ap (λ g. (i.each g).line.backup) same ∙ sym b.spot

  -- ---- of a generation that somebody has won

  module _ (hosts generation : ℕ) where
    none_won : (y : Node S) → y.generation ≡ generation → winner_in w.winners y.generation ≡ None → (n : ℕ) →
        Some n ≡ winner_in w.winners generation → ⊥
    none_won y same none n won =
        let e : Some n ≡ None = won ∙ sym (ap (winner_in w.winners) same) ∙ none in (cc)

    the_winner : (n m : ℕ) (y : Node S) → Some n ≡ winner_in w.winners generation → slice_get w.nodes m ≡ Some y →
        y.generation ≡ generation → (y.role ≡ Draining) ⊎ (y.role ≡ Alone) → m ≡ n
    the_winner n m y won there same role =
        let e : Some m ≡ Some n = sym (won_is m y there role) ∙ ap (winner_in w.winners) same ∙ sym won in (cc)

    -- the winner shows that it has won
    shows_won : (y : Node S) (p : shown.Role) → y.running ≡ true → (y.role ≡ Draining) ⊎ (y.role ≡ Alone) → IsRole y p →
        (p ≡ role.Draining) ⊎ (p ≡ role.Alone)
    shows_won y p up won is = elim won [
      | inl d ↦ inl (one_role y p role.Draining is (up, d))
      | inr a ↦ inr (one_role y p role.Alone is (up, a))
    ]

    is_winner : (n m : ℕ) (shows : Option shown.Role) → m ≡ n → (y : Node S) → slice_get w.nodes m ≡ Some y →
        y.running ≡ true → y.generation ≡ generation → (y.role ≡ Draining) ⊎ (y.role ≡ Alone) →
        IsRoleIn w n generation shows → IsOneOf m (won_as n shows)
    is_winner n m None is y there up same won so =
        let k = so y (subst (λ j. slice_get w.nodes j ≡ Some y) is there) same in
        absurd (elim won [ inl d ↦ (cc) | inr a ↦ (cc) ])
    is_winner n m (Some p) is y there up same won so =
        let at = same_some so.0 y (slice_get w.nodes n) so.1 (subst (λ j. slice_get w.nodes j ≡ Some y) is there) in
        elim (shows_won y p up won (subst (λ z. IsRole z p) at so.2)) [
          | inl d ↦ subst (λ q. IsOneOf m (won_as n (Some q))) (sym d) is
          | inr a ↦ subst (λ q. IsOneOf m (won_as n (Some q))) (sym a) is
        ]

    no_joiner : (n : ℕ) (shows : Option shown.Role) → NoneJoins w hosts generation (won_as n shows)
    no_joiner n None = tt
    no_joiner n (Some role.Primary) = tt
    no_joiner n (Some role.Backup) = tt
    no_joiner n (Some role.Joining) = tt
    no_joiner n (Some role.Draining) = tt
    no_joiner n (Some role.Alone) = tt
    no_joiner n (Some role.Halted) = tt

    winner_only : (n : ℕ) (shows : Option shown.Role) → Some n ≡ winner_in w.winners generation →
        IsRoleIn w n generation shows → AreAll w hosts generation (won_as n shows)
    winner_only n shows won is = record {
      each = λ m y lt same may. elim may.who [
        | inl u ↦ absurd (none_won y same u.1 n won)
        | inr r ↦ is_winner n m shows (the_winner n m y won may.there same r) y may.there may.up same r is
      ];
      joins = no_joiner n shows;
    }

    -- ---- of a generation that nobody has won

    primary_in : (primary backup joining : Option ℕ) →
        IfSome primary (λ n. IsRoleIn w n generation (Some role.Primary)) →
        (primary ≡ None → HaveOtherRoles w hosts generation role.Primary) → (m : ℕ) (y : Node S) → m < hosts →
        slice_get w.nodes m ≡ Some y → y.running ≡ true → y.generation ≡ generation → y.role ≡ Primary →
        IsOneOf m (undecided_as primary backup joining)
    primary_in (Some n) (Some b) j is none m y lt there up same role =
        inl (one_primary m n y is.0 there is.1 up is.2.0 role is.2.1 (same ∙ sym is.3))
    primary_in (Some n) None (Some host) is none m y lt there up same role =
        one_primary m n y is.0 there is.1 up is.2.0 role is.2.1 (same ∙ sym is.3)
    primary_in (Some n) None None is none m y lt there up same role =
        one_primary m n y is.0 there is.1 up is.2.0 role is.2.1 (same ∙ sym is.3)
    primary_in None b j is none m y lt there up same role =
        absurd (none refl m lt y there (λ k. (cc)) same (up, role))

    backup_in : (primary backup joining : Option ℕ) →
        IfSome backup (λ n. IsRoleIn w n generation (Some role.Backup)) →
        (backup ≡ None → HaveOtherRoles w hosts generation role.Backup) → (m : ℕ) (y : Node S) → m < hosts →
        slice_get w.nodes m ≡ Some y → y.running ≡ true → y.generation ≡ generation → y.role ≡ Backup →
        IsOneOf m (undecided_as primary backup joining)
    backup_in (Some n) (Some b) j is none m y lt there up same role =
        inr (one_backup m b y is.0 there is.1 up is.2.0 role is.2.1 (same ∙ sym is.3))
    backup_in None (Some b) j is none m y lt there up same role =
        one_backup m b y is.0 there is.1 up is.2.0 role is.2.1 (same ∙ sym is.3)
    backup_in p None j is none m y lt there up same role =
        absurd (none refl m lt y there (λ k. (cc)) same (up, role))

    none_joins : (primary backup joining : Option ℕ) →
        (joining ≡ None → HaveOtherRoles w hosts generation role.Joining) →
        NoneJoins w hosts generation (undecided_as primary backup joining)
    none_joins (Some n) (Some b) j none = tt
    none_joins (Some n) None (Some host) none = tt
    none_joins (Some n) None None none = λ host lt acts.
        let role = acts.role_is in
        none refl host lt acts.x acts.there (λ k. (cc)) acts.generation_is (acts.up, acts.role_is)
    none_joins None (Some b) j none = tt
    none_joins None None j none = tt

    undecided_only : None ≡ winner_in w.winners generation → (primary backup joining : Option ℕ) →
        IfSome primary (λ n. IsRoleIn w n generation (Some role.Primary)) →
        IfSome backup (λ n. IsRoleIn w n generation (Some role.Backup)) →
        (primary ≡ None → HaveOtherRoles w hosts generation role.Primary) →
        (backup ≡ None → HaveOtherRoles w hosts generation role.Backup) →
        (joining ≡ None → HaveOtherRoles w hosts generation role.Joining) →
        AreAll w hosts generation (undecided_as primary backup joining)
    undecided_only none primary backup joining p b no_primary no_backup no_joining = record {
      each = λ m y lt same may. elim may.who [
        | inl u ↦ elim u.0 [
          | inl r ↦ primary_in primary backup joining p no_primary m y lt may.there may.up same r
          | inr r ↦ backup_in primary backup joining b no_backup m y lt may.there may.up same r
        ]
        | inr r ↦ absurd (let e : Some m ≡ None =
            sym (won_is m y may.there r) ∙ ap (winner_in w.winners) same ∙ sym none in (cc))
      ];
      joins = none_joins primary backup joining no_joining;
    }

    -- of the highest generation
    module _ (top : generation ≡ highest w.nodes) (who : ServingNodes) where
      pub winner_is_all : (n : ℕ) (shows : Option shown.Role) → Some n ≡ winner_in w.winners generation →
          IsRoleIn w n generation shows → who ≡ won_as n shows → AreAll w hosts (highest w.nodes) who
      winner_is_all n shows won is same =
          subst (λ g. AreAll w hosts g who) top
          (subst (AreAll w hosts generation) (sym same) (winner_only n shows won is))

      pub undecided_are_all : None ≡ winner_in w.winners generation → (primary backup joining : Option ℕ) →
          IfSome primary (λ n. IsRoleIn w n generation (Some role.Primary)) →
          IfSome backup (λ n. IsRoleIn w n generation (Some role.Backup)) →
          (primary ≡ None → HaveOtherRoles w hosts generation role.Primary) →
          (backup ≡ None → HaveOtherRoles w hosts generation role.Backup) →
          (joining ≡ None → HaveOtherRoles w hosts generation role.Joining) →
          who ≡ undecided_as primary backup joining → AreAll w hosts (highest w.nodes) who
      undecided_are_all none primary backup joining p b no_primary no_backup no_joining same =
          subst (λ g. AreAll w hosts g who) top
          (subst (AreAll w hosts generation) (sym same)
          (undecided_only none primary backup joining p b no_primary no_backup no_joining))

-- ---- whether somebody serves

pub somebody : {S : Type 0} (w : World S) (generation : ℕ) (who : ServingNodes) → Serves w generation who →
    (who ≡ serving.Nobody → ⊥) → SomebodyServes w generation
somebody w generation serving.Nobody is not = absurd (not refl)
somebody w generation (serving.Primary n) is not =
    record { n = n; x = is.acts.x; generation_is = is.acts.generation_is; may_serve = is.may_serve }
somebody w generation (serving.Backup n) is not =
    record { n = n; x = is.acts.x; generation_is = is.acts.generation_is; may_serve = is.may_serve }
somebody w generation (serving.Draining n) is not =
    record { n = n; x = is.acts.x; generation_is = is.acts.generation_is; may_serve = is.may_serve }
somebody w generation (serving.Alone n) is not = record {
  n = n;
  x = is.x;
  generation_is = is.generation_is;
  may_serve = record { there = is.there; up = is.up; who = inr (inr is.alone) };
}
somebody w generation (serving.Joining n host) is not = record {
  n = n;
  x = is.primary.acts.x;
  generation_is = is.primary.acts.generation_is;
  may_serve = is.primary.may_serve;
}
somebody w generation (serving.Pair n backup) is not = record {
  n = n;
  x = is.x;
  generation_is = is.primary_generation;
  may_serve = record {
    there = is.primary;
    up = is.primary_up;
    who = inl (inl is.primary_role, ap (winner_in w.winners) is.primary_generation ∙ is.undecided);
  };
}

pub nobody : {S : Type 0} (w : World S) (hosts generation : ℕ) (who : ServingNodes) → AreAll w hosts generation who →
    who ≡ serving.Nobody → NobodyServes w hosts generation
nobody w hosts generation who all none n x lt same may = subst (IsOneOf n) none (all.each n x lt same may)

pub some_node : (who : ServingNodes) → is_some (node_in who) ≡ true → who ≡ serving.Nobody → ⊥
some_node who is none = let no : is_some (node_in serving.Nobody) ≡ true = subst (λ k. is_some (node_in k) ≡ true) none is in (cc)

pub no_node : (who : ServingNodes) → is_some (node_in who) ≡ false → who ≡ serving.Nobody
no_node serving.Nobody is = refl
no_node (serving.Primary n) is = absurd (cc)
no_node (serving.Backup n) is = absurd (cc)
no_node (serving.Draining n) is = absurd (cc)
no_node (serving.Alone n) is = absurd (cc)
no_node (serving.Joining n host) is = absurd (cc)
no_node (serving.Pair n backup) is = absurd (cc)
