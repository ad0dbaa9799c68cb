mod OwnLaws
