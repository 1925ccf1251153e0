mod News
