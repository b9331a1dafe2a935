-- A jar after one more set.
use Rattle.std.proofs.Common.{◌≡◌, ℕ, List, [], ◌∷◌, ◌++◌, Bool, true, false, refl, sym, ◌∙◌, ap, map, arith}
use Rattle.std.specs.Prelude.{if◌then◌else◌, bytes_eq}
use Rattle.std.specs.List.{list_any}
use Rattle.std.proofs.lemmas.Bool.Decides.{nat_tests}
use Rattle.std.proofs.lemmas.Slice.Eq.{bytes_eq-Decides}
use Rattle.ibos_kinds.specs.declared.cookies.Cookie.{Cookie}
use Rattle.ibos_kinds.specs.Cookies.{put}
use Rattle.ibos_model.specs.Jars.{names, value_of, jar}
use Rattle.ibos_model.proofs.Equalities.{bytes_eq-refl}

abbrev is_in : List ℕ → List (List ℕ) → Bool
is_in name ns = list_any (bytes_eq name) ns

abbrev at_name : List Cookie → List ℕ → Cookie
at_name sets name = record { name = name; value = value_of sets name }

-- each name once
abbrev Once : List (List ℕ) → Type 0
Once [] = Unit {0}
Once (name ∷ ns) = (is_in name ns ≡ false) × Once ns

same_names : (xs ys : List ℕ) → bytes_eq xs ys ≡ true → xs ≡ ys
same_names xs ys h = (bytes_eq-Decides xs ys).0 h

-- a set of another name leaves a value
other_values : (set : Cookie) (sets : List Cookie) (ns : List (List ℕ)) → is_in set.name ns ≡ false → map (at_name (set ∷ sets)) ns ≡ map (at_name sets) ns
other_values set sets [] absent = refl
other_values set sets (name ∷ ns) absent = grind (arith, nat_tests, other_values set sets ns)

-- a new name is the last
put_new : (set : Cookie) (sets : List Cookie) (ns : List (List ℕ)) → is_in set.name ns ≡ false → map (at_name (set ∷ sets)) (ns ++ set.name ∷ []) ≡ put set (map (at_name sets) ns)
put_new set sets [] absent = rw (bytes_eq-refl set.name) refl
put_new set sets (name ∷ ns) absent = grind (arith, nat_tests, put_new set sets ns)

-- a name that is there keeps its place
put_old : (set : Cookie) (sets : List Cookie) (ns : List (List ℕ)) → Once ns → is_in set.name ns ≡ true → map (at_name (set ∷ sets)) ns ≡ put set (map (at_name sets) ns)
put_old set sets [] once there = cc
put_old set sets (name ∷ ns) once there = by_name (bytes_eq set.name name) refl (put_old set sets ns once.1)
  where
    by_name : (same : Bool) → bytes_eq set.name name ≡ same
        → (is_in set.name ns ≡ true → map (at_name (set ∷ sets)) ns ≡ put set (map (at_name sets) ns))
        → at_name (set ∷ sets) name ∷ map (at_name (set ∷ sets)) ns ≡ (if same then set ∷ map (at_name sets) ns else at_name sets name ∷ put set (map (at_name sets) ns))
    by_name true is rest =
        let one = same_names set.name name is in
        let absent : is_in set.name ns ≡ false = ap (λ n. is_in n ns) one ∙ once.0 in
        rw is (ap (λ n. record { name = n; value = set.value } ∷ map (at_name (set ∷ sets)) ns) (sym one) ∙ ap (λ cookies. set ∷ cookies) (other_values set sets ns absent))
    by_name false differs rest = rw differs (ap (λ cookies. at_name sets name ∷ cookies) (rest (rw differs at there)))

differ_sym : (xs ys : List ℕ) → bytes_eq xs ys ≡ false → bytes_eq ys xs ≡ false
differ_sym xs ys differ = by_test (bytes_eq ys xs) refl
  where
    by_test : (b : Bool) → bytes_eq ys xs ≡ b → b ≡ false
    by_test false is = refl
    by_test true is = let one = same_names ys xs is in let back = rw one at differ in absurd (true_differs (sym (bytes_eq-refl xs) ∙ back))
      where
        true_differs : true ≡ false → ⊥
        true_differs h = cc

once_push : (name : List ℕ) (ns : List (List ℕ)) → Once ns → is_in name ns ≡ false → Once (ns ++ name ∷ [])
once_push name [] once absent = (refl, tt)
once_push name (n ∷ ns) once absent = (grind (arith, nat_tests, absent_push n name ns once.0, differ_sym name n), once_push name ns once.1 (grind (arith, nat_tests)))
  where
    absent_push : (m name : List ℕ) (ns : List (List ℕ)) → is_in m ns ≡ false → bytes_eq m name ≡ false → is_in m (ns ++ name ∷ []) ≡ false
    absent_push m name [] absent differ = rw differ refl
    absent_push m name (n ∷ ns) absent differ = grind (arith, nat_tests, absent_push m name ns)

names_once : (sets : List Cookie) → Once (names sets)
names_once [] = tt
names_once (set ∷ sets) = by_name (is_in set.name (names sets)) refl (names_once sets)
  where
    by_name : (there : Bool) → is_in set.name (names sets) ≡ there → Once (names sets) → Once (if there then names sets else names sets ++ set.name ∷ [])
    by_name true is once = once
    by_name false is once = once_push set.name (names sets) once is

pub jar-set : (set : Cookie) (sets : List Cookie) → jar (set ∷ sets) ≡ put set (jar sets)
unfolding jar
jar-set set sets = by_name (is_in set.name (names sets)) refl
  where
    by_name : (there : Bool) → is_in set.name (names sets) ≡ there → map (at_name (set ∷ sets)) (if there then names sets else names sets ++ set.name ∷ []) ≡ put set (map (at_name sets) (names sets))
    by_name true is = put_old set sets (names sets) (names_once sets) is
    by_name false is = put_new set sets (names sets) is
