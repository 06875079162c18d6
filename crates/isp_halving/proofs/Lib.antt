mod HalvingLaws
